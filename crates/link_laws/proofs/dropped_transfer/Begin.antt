-- A transfer begins, in a call that both ends have or in a new one, and what it says goes out on a link that drops frames.
use Rattle.std.proofs.Common.{◌≡◌, ℕ, suc, ◌+◌, ◌≤◌, Bool, true, false, if◌then◌else◌, List, [], ◌∷◌, ◌++◌, length, map, slice_get, Some, None, ◌⊎◌, inl, inr, refl, ap, sym, ◌∙◌, subst, arith, append_assoc, length-append}
use Rattle.std.proofs.lemmas.List.{append-nil}
use Rattle.std.specs.List.{AllByRecursion}
use Rattle.history_laws.proofs.messages.Members.{all_weaken}
use Rattle.rpc_packet.specs.declared.owned.Packet.{Packet}
use Rattle.rpc_handlers.specs.declared.event.Event.TheVariants.{Request as Asked}
use Rattle.rpc_handlers.specs.declared.event.Memo.{Memo}
use Rattle.transfer_words.specs.Word.{Word}
use Rattle.transfer_words.specs.Spoken.{FitsChunk}
use Rattle.transfer_words.specs.Saying.{Stepped}
use Rattle.transfer_client.specs.Machine.{Rules}
use Rattle.transfer_resume.specs.Session.{Row}
use Rattle.demo_services.specs.Transfer.{transfer_memo}
use Rattle.transfer_laws.specs.losses.Drops.{Lost, LossyPair, begun, kept, missing}
use Rattle.link_laws.specs.world.Reports.{carries_chunk}
use Rattle.link_laws.specs.world.Starts.{request}
use Rattle.link_laws.specs.world.Turns.{Turns}
use Rattle.link_laws.specs.world.World.{Setup, Transfer, World}
use Rattle.link_laws.specs.rounds.Carrying.{carrying}
use Rattle.link_laws.specs.lossless_transfer.Finishes.{Passes, RunsOut}
use Rattle.link_laws.specs.lossless_transfer.Shows.{GoesUp, Places, moment_at, packet_saying, up_packet}
use Rattle.link_laws.proofs.lossless_transfer.Beginning.{CanBegin, Carries, HasBegun, begins_on_new, begins_on_old, first_words}
use Rattle.link_laws.proofs.lossless_transfer.Machines.{IsWrapped, KeepsOn}
use Rattle.link_laws.proofs.plain_calls.Numbers.{numbered_grow}
use Rattle.link_laws.specs.dropped_transfer.Dropped.{DropsChunks, is_dropped, loses}
use Rattle.link_laws.specs.dropped_transfer.Rounds.{IsNumberedAt}
use Rattle.link_laws.specs.dropped_transfer.Sessions.{IsSetForDrops, book_with}
use Rattle.link_laws.specs.dropped_transfer.Shows.{HasNumbered, IsLostIn, ShowsLossy}
use Rattle.link_laws.specs.dropped_transfer.Survives.{BeginsDropping, OpensAnew, OpensThere}
use Rattle.link_laws.proofs.dropped_transfer.Links.{client_sends, going_on, kept_all, undamaged}
use Rattle.link_laws.proofs.dropped_transfer.Numbers.{IsLostNow, lost_up, numbered_more_up, words_kept_up}
use Rattle.link_laws.proofs.dropped_transfer.Chain.{below}
use Rattle.link_laws.proofs.dropped_transfer.Rounds.{numbered_at_once}

-- what stands behind a list
get_behind : {A : Type 0} (xs : List A) (y : A) (ys : List A) → slice_get ((xs ++ y ∷ []) ++ ys) (length xs) ≡ Some y
get_behind [] y ys = refl
get_behind (x ∷ xs) y ys = get_behind xs y ys

module _ {A : Type 0} (rules : Rules A) (wrap : A → Transfer) (P : A → Type 0) (k : Setup) (x : Places) (older : List Row) (set : IsSetForDrops k x older) (wrapped : IsWrapped rules wrap) (keeps : KeepsOn rules (moment_at x) P)
    (t : A) (can : CanBegin rules P (moment_at x) t) (start far : World) (drops : DropsChunks k far) where
  abbrev opens : Stepped A
  opens = rules.opens t (moment_at x)

  abbrev told : List Word
  told = first_words rules (moment_at x) t

  -- those that aren't dropped
  abbrev ups : List Word
  ups = going_on (is_dropped k) (length x.numbered) told

  abbrev lossy : ℕ → Bool
  lossy = loses k x.session far

  -- a packet that carries no chunk isn't
  not_dropped : (n : ℕ) (p : Packet) → slice_get far.numbered n ≡ Some p → carries_chunk p ≡ false → is_dropped k (suc n) ≡ false
  not_dropped n p there quiet = by_test (is_dropped k (suc n)) refl
    where
      by_test : (b : Bool) → is_dropped k (suc n) ≡ b → is_dropped k (suc n) ≡ false
      by_test true is = absurd cc (sym (drops.chunks n p there is) ∙ quiet)
      by_test false is = is

  carried : Carries k x far told ups
  carried = record {
    undamaged = undamaged k.losses set.only.drops;
    words = λ from ps behind on.
        client_sends k set.only.drops (up_packet x) told ps from on
        ∙ ap (λ (before : List Packet). carrying (ps ++ map (up_packet x) (going_on (is_dropped k) (length before) told))) behind;
    asks = λ mid from p more run numbered quiet on.
        let grown = numbered_grow k run.total mid far run.turns in
        let there : slice_get far.numbered (length from.numbered) ≡ Some p =
        ap (λ ps. slice_get ps (length from.numbered)) (grown.1 ∙ (ap (λ ps. ps ++ grown.0) numbered ∙ append_assoc (from.numbered ++ p ∷ []) more grown.0))
        ∙ get_behind from.numbered p (more ++ grown.0) in
        client_sends k set.only.drops (λ (q : Packet). q) (p ∷ []) [] from on
        ∙ ap (λ (b : Bool). carrying (map (λ (q : Packet). q) (if b then [] else p ∷ []))) (not_dropped (length from.numbered) p there quiet);
  }

  -- THE PAIR OF THE BEGINNING
  abbrev first : LossyPair A
  first = begun x.service rules lossy (moment_at x) x.service.time t

  abbrev ShowsFirst : World → Type 0
  ShowsFirst big = ShowsLossy wrap k x older [] start big first

  -- the world shows it
  module _ (nothing : HasNumbered x.session x.numbered 0) (memo : Memo) (sessions : memo ≡ transfer_memo (book_with x older None)) (big : World) (many : ℕ) (way : Turns k many start big)
      (b : HasBegun wrap k x opens.after told ups memo big) (run : RunsOut k big far) (times : start.times ≡ x.times) (few : length start.numbered ≤ length x.numbered) where
    fits : AllByRecursion FitsChunk told
    fits = all_weaken (GoesUp x) FitsChunk told (λ w goes. goes.fits) b.up

    abbrev more : List Packet
    more = (numbered_grow k run.total big far run.turns).0

    grown : far.numbered ≡ big.numbered ++ more
    grown = (numbered_grow k run.total big far run.turns).1

    numbered : far.numbered ≡ (x.numbered ++ map (up_packet x) told) ++ more
    numbered = grown ∙ ap (λ ps. ps ++ more) b.numbered

    same_words : ups ≡ kept lossy 0 told
    same_words = words_kept_up k x far x.numbered more told 0 set.places.session numbered nothing set.service_is fits

    -- what was lost was numbered in the first round
    lost_first : (l : Lost) → IsLostNow k x (length x.numbered) (moment_at x) big l → IsLostIn k x start big l
    lost_first l lost = record {
      place = lost.place;
      type = lost.type;
      message = lost.message;
      there = lost.there;
      dropped = lost.dropped;
      fits = lost.fits;
      times = x.times;
      numbered =
          subst (IsNumberedAt k start lost.place) times
          (numbered_at_once k many start big lost.place way (omega (arith, few, lost.later)) (below big.numbered lost.place (packet_saying lost.type x.client_opening.name x.session l.word) lost.there) (b.kept.times ∙ sym times));
      moment = lost.moment;
    }

    shows : ShowsFirst big
    shows = record {
      stands = record {
        server = b.server.0;
        sessions = b.server.1 ∙ sessions;
        client = b.client;
        to_server = b.to_server ∙ ap (λ ws. carrying (map (up_packet x) ws)) same_words;
        to_client = b.to_client;
        up = kept_all (GoesUp x) lossy told 0 b.up;
        down = tt;
        fed_server = b.fed_server;
        fed_client = b.fed_client;
        said_are =
            subst (λ ps. HasNumbered x.session ps (0 + length told)) (sym b.numbered)
            (numbered_more_up k x x.numbered told 0 set.places.session set.service_is fits nothing);
        kept = b.kept;
      };
      own = refl;
      task = b.task;
      now = refl;
      time = refl;
      lost =
          subst (AllByRecursion (IsLostIn k x start big)) (sym (append-nil (missing lossy (moment_at x) 0 told)))
          (all_weaken (IsLostNow k x (length x.numbered) (moment_at x) big) (IsLostIn k x start big) (missing lossy (moment_at x) 0 told) lost_first
          (lost_up k x big far x.numbered more told (length x.numbered) (moment_at x) 0 (omega arith) set.places.session b.numbered grown nothing set.service_is fits));
    }

  -- THE RUN MAKES ITS START
  pub begins_in : BeginsDropping k x older start (wrap t) → RunsOut k start far → Passes k start far ShowsFirst
  begins_in begins run = by_call begins.how
    where
      by_call : OpensThere k x older start begins.command (wrap t) ⊎ OpensAnew k x older start begins.command (wrap t) → Passes k start far ShowsFirst
      by_call (inl old) =
          let memo : Memo = old.begins.server.memo in
          let p : Passes k start far (HasBegun wrap k x opens.after told ups memo) =
          begins_on_old rules wrap P k x set.places set.only.client wrapped keeps t can far ups carried start begins.command begins.asks old.begins run in
          let few : length start.numbered ≤ length x.numbered = omega (arith, ap length old.begins.numbered) in
          record {
            mid = p.mid;
            many = p.many;
            way = p.way;
            rest = p.rest;
            holds = shows begins.numbered memo old.sessions p.mid p.many p.way p.holds p.rest old.begins.idle.times few;
          }
      by_call (inr new) =
          let memo : Memo = k.rule.next (k.rule.first k.server.seed new.begins.method) (Asked []) in
          let p : Passes k start far (HasBegun wrap k x opens.after told ups memo) =
          begins_on_new rules wrap P k x set.places set.only.client wrapped keeps t can far ups carried set.only.rule start begins.command begins.asks new.begins run in
          let few : length start.numbered ≤ length x.numbered =
          omega (arith, ap length new.begins.numbered, length-append start.numbered (request x.client_opening.name [] ∷ [])) in
          record {
            mid = p.mid;
            many = p.many;
            way = p.way;
            rest = p.rest;
            holds =
                shows begins.numbered memo (new.sessions ∙ ap (λ rows. transfer_memo (book_with x rows None)) (sym new.none)) p.mid p.many p.way p.holds p.rest new.begins.idle.times few;
          }

pub begins_so : {A : Type 0} (rules : Rules A) (wrap : A → Transfer) (P : A → Type 0) (k : Setup) (x : Places) (older : List Row) → IsSetForDrops k x older → IsWrapped rules wrap → KeepsOn rules (moment_at x) P
    → (t : A) → CanBegin rules P (moment_at x) t → (big far : World) → DropsChunks k far → BeginsDropping k x older big (wrap t) → RunsOut k big far
    → Passes k big far (λ next. ShowsLossy wrap k x older [] big next (begun x.service rules (loses k x.session far) (moment_at x) x.service.time t))
begins_so rules wrap P k x older set wrapped keeps t can big far drops begins run = begins_in rules wrap P k x older set wrapped keeps t can big far drops begins run
