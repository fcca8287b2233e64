-- A run of the world goes as the two ends of its transfer do, whatever words are lost.
use Rattle.std.proofs.Common.{◌≡◌, ℕ, zero, suc, ◌+◌, ◌*◌, ◌<◌, ◌≤◌, ◌^◌, List, [], ◌∷◌, ◌++◌, length, map, slice_get, Bool, true, Option, Some, None, refl, ap, sym, ◌∙◌, subst, arith}
use Rattle.std.specs.List.{AllByRecursion}
use Rattle.link_script.specs.declared.report.ReportLine.{ReportLine}
use Rattle.rpc_ids.specs.declared.Status.{Status}
use Rattle.rpc_packet.specs.declared.owned.Packet.{Packet}
use Rattle.rpc_journal.specs.declared.entry.Entry.{Entry}
use Rattle.link_script.specs.lossy.Link.{Link}
use Rattle.history_laws.proofs.messages.Members.{all_join, all_weaken}
use Rattle.transfer_base.specs.declared.limits.TheConstants.{TIMEOUT}
use Rattle.transfer_words.specs.Word.{Word}
use Rattle.transfer_words.specs.Saying.{Stepped}
use Rattle.transfer_client.specs.Machine.{Rules}
use Rattle.transfer_resume.specs.declared.stage.Stage.{Stage}
use Rattle.transfer_resume.specs.Session.{Row, Service}
use Rattle.transfer_resume.specs.Hears.{session_hears}
use Rattle.transfer_laws.specs.pairs.Pair.{words_of}
use Rattle.transfer_laws.specs.losses.Drops.{LeadsTo, Lost, LossyPair, at_time, client_heard, kept, missing, server_heard, session_ticks, step, step_by, time_passed, waits_by}
use Rattle.link_laws.specs.declared.world.limits.TheConstants.{TURN_OF_TIME}
use Rattle.link_laws.specs.world.Lines.{finished, line_telling, transfer_end, transfer_line}
use Rattle.link_laws.specs.world.Turns.{Turns, ending, kind_by, next_kind}
use Rattle.link_laws.specs.world.World.{Setup, Tasked, Transfer, Under, World, reads, transferring, writes}
use Rattle.link_laws.specs.rounds.Carrying.{carrying}
use Rattle.link_laws.specs.lossless_transfer.Finishes.{Passes, RunsOut}
use Rattle.link_laws.specs.lossless_transfer.Shows.{IsUnderWay, Places, packet_saying, tasked_with, up_packet}
use Rattle.link_laws.proofs.lossless_transfer.Chain.{Begun, down_first, further, goes_on, here, up_first}
use Rattle.link_laws.proofs.lossless_transfer.Linking.{finished_on, finished_over}
use Rattle.link_laws.proofs.lossless_transfer.Machines.{IsWrapped}
use Rattle.link_laws.proofs.lossless_transfer.ServiceWords.{SessionFits}
use Rattle.link_laws.proofs.lossless_scripts.Walk.{turns_join}
use Rattle.link_laws.proofs.one_run.Keeping.{finish_keeps}
use Rattle.link_laws.proofs.plain_calls.Numbers.{finished_numbered, numbered_grow}
use Rattle.link_laws.specs.dropped_transfer.Dropped.{loses}
use Rattle.link_laws.specs.dropped_transfer.Passing.{Passing, own, other, own_words, passing_packet, stray_packet}
use Rattle.link_laws.specs.dropped_transfer.Sessions.{IsSetForDrops, OnlyDrops, at_turn, ticked_rows}
use Rattle.link_laws.specs.dropped_transfer.Shows.{IsLostIn, LeftDropping, StandsDropping}
use Rattle.link_laws.proofs.dropped_transfer.ClientStep.{ClientTurned, client_turned}
use Rattle.link_laws.proofs.dropped_transfer.Numbers.{IsLostNow, all_still_lost, own_all, own_joined}
use Rattle.link_laws.proofs.dropped_transfer.ServerStep.{ServerTurned, server_turned}
use Rattle.link_laws.proofs.dropped_transfer.StrayStep.{StrayTurned, stray_under_way}
use Rattle.link_laws.proofs.dropped_transfer.TimeStep as passing
use Rattle.link_laws.proofs.dropped_transfer.TimeStep.{KeepsTime, TimePassed}

-- where no frame is on its way the transfer under way makes the time pass
late_first : (big : World) (t : Tasked) → big.to_server ≡ carrying [] → big.to_client ≡ carrying [] → big.under ≡ Some (transferring t) → next_kind big ≡ ending → ⊥
late_first big t none_up none_down under last =
    let no_up : kind_by [] big.to_client.frames big.under big.coming ≡ ending = subst (λ (l : Link). kind_by l.frames big.to_client.frames big.under big.coming ≡ ending) none_up last in
    let no_down : kind_by [] [] big.under big.coming ≡ ending = subst (λ (l : Link). kind_by [] l.frames big.under big.coming ≡ ending) none_down no_up in
    absurd cc (subst (λ (u : Option Under). kind_by [] [] u big.coming ≡ ending) under no_down)

abbrev pub lossy : {A : Type 0} → Option Stage → A → List Word → List Word → ℕ → List Lost → ℕ → ℕ → LossyPair A
lossy a b ups downs m lost now time =
    record { pair = record { server = a; client = b; to_server = ups; to_client = downs; said = m }; lost = lost; now = now; time = time }

-- the moment never goes back, and the last tick isn't later
module _ {A : Type 0} (service : Service) (rules : Rules A) (lost_number : ℕ → Bool) where
  waits_later : (w : LossyPair A) (o : Option Status) → w.now ≤ (waits_by service rules lost_number w o).now
  waits_later w None = omega arith
  waits_later w (Some status) = omega arith

  pub step_later : (w : LossyPair A) (ups downs : List Word) → w.now ≤ (step_by service rules lost_number w ups downs).now
  step_later w (c ∷ rest) downs = omega arith
  step_later w [] (c ∷ rest) = omega arith
  step_later w [] [] = waits_later w (rules.end_of w.pair.client)

  pub leads_later : (n : ℕ) (w last : LossyPair A) → LeadsTo service rules lost_number n w last → w.now ≤ last.now
  leads_later zero w last same = omega (arith, ap (λ (v : LossyPair A). v.now) same)
  leads_later (suc n) w last leads =
      omega (arith, step_later w w.pair.to_server w.pair.to_client, leads_later n (step service rules lost_number w) last leads.1)

  waits_past : (w : LossyPair A) (o : Option Status) → w.time ≤ w.now → (waits_by service rules lost_number w o).time ≤ (waits_by service rules lost_number w o).now
  waits_past w None past = omega arith
  waits_past w (Some status) past = past

  step_past : (w : LossyPair A) (ups downs : List Word) → w.time ≤ w.now → (step_by service rules lost_number w ups downs).time ≤ (step_by service rules lost_number w ups downs).now
  step_past w (c ∷ rest) downs past = past
  step_past w [] (c ∷ rest) past = past
  step_past w [] [] past = waits_past w (rules.end_of w.pair.client) past

  pub leads_past : (n : ℕ) (w last : LossyPair A) → LeadsTo service rules lost_number n w last → w.time ≤ w.now → last.time ≤ last.now
  leads_past zero w last same past = subst (λ (v : LossyPair A). v.time ≤ v.now) same past
  leads_past (suc n) w last leads past =
      leads_past n (step service rules lost_number w) last leads.1 (step_past w w.pair.to_server w.pair.to_client past)

none_some : (o : Option Status) (s : Status) → o ≡ None → o ≡ Some s → ⊥
none_some None s none some = cc
none_some (Some r) s none some = cc

same_status : (r s : Status) → ◌≡◌ {A = Option Status} (Some r) (Some s) → r ≡ s
same_status r s e = cc

-- what a turn numbers comes behind what was numbered, so what was lost is lost behind it
grows : (k : Setup) (big far : World) (f : Begun k big far) (w : World) → f.next ≡ finished k w → (more : List Packet) × (w.numbered ≡ big.numbered ++ more)
grows k big far f w ends =
    let grown = numbered_grow k 1 big f.next (f.next, f.turn, refl) in (
      grown.0,
      sym (finished_numbered k w) ∙ (sym (ap (λ (z : World). z.numbered) ends) ∙ grown.1),
    )

same_lost : (k : Setup) (x : Places) (start a b : World) → b.numbered ≡ a.numbered → (v : Lost) → IsLostIn k x start a v → IsLostIn k x start b v
same_lost k x start a b same v lost = record {
  place = lost.place;
  type = lost.type;
  message = lost.message;
  there = ap (λ (ps : List Packet). slice_get ps lost.place) same ∙ lost.there;
  dropped = lost.dropped;
  fits = lost.fits;
  times = lost.times;
  numbered = lost.numbered;
  moment = lost.moment;
}

-- what stands in a list stands at a place of it
pub below : {A : Type 0} (xs : List A) (i : ℕ) (y : A) → slice_get xs i ≡ Some y → i < length xs
below [] i y there = absurd cc
below (x ∷ xs) zero y there = omega arith
below (x ∷ xs) (suc i) y there = omega (arith, below xs i y there)

-- the end of a turn takes no time
finished_times : (k : Setup) (w : World) → (finished k w).times ≡ w.times
finished_times k w = finish_keeps k (λ v. v.times) (λ v lines. refl) (λ v a b. refl) w

-- the line of a transfer tells some length
length_told : (k : Setup) (w : World) (task : Tasked) (t : Transfer) (status : Status) → (bytes : ℕ) × (transfer_line k w task t status ≡ line_telling t status bytes)
length_told k w task (reads d) status = (_, refl)
length_told k w task (writes u) status = (_, refl)

-- The transfer under way has ended so: the end of the turn tells its line, and adds nothing else.
module _ (k : Setup) (x : Places) (t : Transfer) (older : List Row) (w now : World) (a : Option Stage) (ups : List Word) (downs : List Passing) (m : ℕ) (s : Status) where
  line_only : (told : ReportLine) → StandsDropping k x older w a ups downs m → w.lines ≡ x.lines
      → LeftDropping k x older (x.lines ++ told ∷ []) (record w { under = None; lines = w.lines ++ told ∷ [] }) a ups downs m
  line_only told st lines = record {
    stands = record {
      server = st.server;
      sessions = st.sessions;
      client = st.client;
      to_server = st.to_server;
      to_client = st.to_client;
      up = st.up;
      down = st.down;
      fed_server = st.fed_server;
      fed_client = st.fed_client;
      said_are = st.said_are;
      kept = record { coming = st.kept.coming; sessions = st.kept.sessions; times = st.kept.times };
    };
    idle = refl;
    told = ap (λ (ls : List ReportLine). ls ++ told ∷ []) lines;
  }

  over_so : StandsDropping k x older w a ups downs m → IsUnderWay x t w → now ≡ finished k w → transfer_end t ≡ Some s
      → (bytes : ℕ) × LeftDropping k x older (x.lines ++ line_telling t s bytes ∷ []) now a ups downs m
  over_so st on ends end =
      let line : ReportLine = transfer_line k w (tasked_with x t) t s in
      let same : now ≡ record w { under = None; lines = w.lines ++ line ∷ [] } =
      ends ∙ finished_over k w (map (up_packet x) ups) (map (passing_packet x) downs) st.to_server st.to_client (tasked_with x t) s on.under end in
      let told = length_told k w (tasked_with x t) t s in (
        told.0,
        subst (λ z. LeftDropping k x older (x.lines ++ line_telling t s told.0 ∷ []) z a ups downs m) (sym same)
            (subst (λ l. LeftDropping k x older (x.lines ++ l ∷ []) (record w { under = None; lines = w.lines ++ line ∷ [] }) a ups downs m) told.1 (line_only line st on.lines)),
      )

-- THE RUN HAS COME TO THIS PAIR, what was lost in it was dropped, and the line was told if the client has ended.
pub record Come {A : Type 0} (rules : Rules A) (wrap : A → Transfer) (k : Setup) (x : Places) (start : World) (last : LossyPair A) (mid : World) : Type 0 where
  pub older : List Row
  pub downs : List Passing
  pub times : ℕ
  pub server : List Entry
  pub now : last.now ≡ TURN_OF_TIME * times
  pub set : IsSetForDrops k (at_turn x last.time times server) older
  pub own_are : own_words downs ≡ last.pair.to_client
  pub fits : SessionFits last.pair.server
  pub lost_are : AllByRecursion (IsLostIn k x start mid) last.lost
  pub left : (status : Status) → rules.end_of last.pair.client ≡ Some status
      → (bytes : ℕ) × LeftDropping k (at_turn x last.time times server) older (x.lines ++ line_telling (wrap last.pair.client) status bytes ∷ []) mid last.pair.server last.pair.to_server downs last.pair.said

module _ {A : Type 0} (rules : Rules A) (wrap : A → Transfer) (P : ℕ → A → Type 0) (k : Setup) (x : Places) (only : OnlyDrops k) (wrapped : IsWrapped rules wrap) (keeps : KeepsTime rules P)
    (start far : World) (last : LossyPair A) (early : last.now + TIMEOUT < 2 ^ 63) where
  abbrev lost_number : ℕ → Bool
  lost_number = loses k x.session far

  -- the world shows these ends, so many turns of time on
  pub record Stood (big : World) (older : List Row) (a : Option Stage) (b : A) (ups : List Word) (downs : List Passing) (lost : List Lost) (m time times : ℕ) (server : List Entry) : Type 0 where
    pub set : IsSetForDrops k (at_turn x time times server) older
    pub stands : StandsDropping k (at_turn x time times server) older big a ups downs m
    pub task : IsUnderWay (at_turn x time times server) (wrap b) big
    pub fits : SessionFits a
    pub holds : P (TURN_OF_TIME * times) b
    pub lost_are : AllByRecursion (IsLostIn k x start big) lost

  -- the world is on the way from the start
  abbrev pub IsOnWay : World → Type 0
  IsOnWay big = (count : ℕ) × Turns k count start big

  abbrev Leads : ℕ → LossyPair A → Type 0
  Leads n w = LeadsTo x.service rules lost_number n w last

  abbrev Comes : World → Type 0
  Comes mid = Come rules wrap k x start last mid

  abbrev pub From : ℕ → Type 0
  From n =
      (big : World) (way : IsOnWay big) (older : List Row) (a : Option Stage) (b : A) (ups : List Word) (downs : List Passing) (lost : List Lost) (m time times : ℕ) (server : List Entry) → rules.end_of b ≡ None
      → Leads n (lossy a b ups (own_words downs) m lost (TURN_OF_TIME * times) time) → Stood big older a b ups downs lost m time times server → RunsOut k big far → Passes k big far Comes

  -- the client has ended: no step of the pair comes behind that
  ended_here : (n : ℕ) (w : LossyPair A) (s : Status) → rules.end_of w.pair.client ≡ Some s → Leads n w → w ≡ last
  ended_here zero w s end leads = leads
  ended_here (suc n) w s end leads = absurd (none_some (rules.end_of w.pair.client) s leads.0 end)

  -- what was lost in a world and in a turn from it is lost behind the turn
  lost_both : (big w : World) (f : Begun k big far) (new old : List Lost) → f.next ≡ finished k w → AllByRecursion (IsLostIn k x start w) new → AllByRecursion (IsLostIn k x start big) old
      → AllByRecursion (IsLostIn k x start w) (new ++ old)
  lost_both big w f new old ends first second =
      let grown = grows k big far f w ends in
      all_join (IsLostIn k x start w) new old first (all_still_lost k x big w grown.0 grown.1 start old second)

  -- the way goes on by a turn
  one_further : (big : World) (f : Begun k big far) → IsOnWay big → IsOnWay f.next
  one_further big f way = turns_join k way.0 1 start big f.next way.1 (f.next, f.turn, refl)

  -- WHAT WAS LOST IN A TURN was lost on the way, behind so many turns of time
  module _ (big w : World) (f : Begun k big far) (way : IsOnWay big) (time times turns now : ℕ) (server : List Entry) (ends : f.next ≡ finished k w) (times_are : w.times ≡ turns) (moment : now ≡ TURN_OF_TIME * turns) where
    abbrev IsNow : Lost → Type 0
    IsNow = IsLostNow k (at_turn x time times server) (length big.numbered) now w

    lost_since : (l : Lost) → IsNow l → IsLostIn k x start w l
    lost_since l lost = record {
      place = lost.place;
      type = lost.type;
      message = lost.message;
      there = lost.there;
      dropped = lost.dropped;
      fits = lost.fits;
      times = turns;
      numbered = record {
        count = way.0;
        before = big;
        after = f.next;
        way = way.1;
        turn = f.turn;
        later = lost.later;
        there = subst (λ (ps : List Packet). lost.place < length ps) (sym (ap (λ (v : World). v.numbered) ends ∙ finished_numbered k w)) (below w.numbered lost.place (packet_saying lost.type x.client_opening.name x.session l.word) lost.there);
        times_are = ap (λ (v : World). v.times) ends ∙ (finished_times k w ∙ times_are);
      };
      moment = lost.moment ∙ moment;
    }

    all_lost_since : (ls : List Lost) → AllByRecursion IsNow ls → AllByRecursion (IsLostIn k x start w) ls
    all_lost_since ls all = all_weaken IsNow (IsLostIn k x start w) ls lost_since all

  -- THE RUN IS AT THE PAIR
  come_here : (big : World) (older : List Row) (a : Option Stage) (b : A) (ups : List Word) (downs : List Passing) (lost : List Lost) (m time times : ℕ) (server : List Entry)
      → lossy a b ups (own_words downs) m lost (TURN_OF_TIME * times) time ≡ last → IsSetForDrops k (at_turn x time times server) older → SessionFits a → AllByRecursion (IsLostIn k x start big) lost
      → ((status : Status) → rules.end_of b ≡ Some status
      → (bytes : ℕ) × LeftDropping k (at_turn x time times server) older (x.lines ++ line_telling (wrap b) status bytes ∷ []) big a ups downs m)
      → Comes big
  come_here big older a b ups downs lost m time times server is set fits lost_are left =
      subst (λ (v : LossyPair A). Come rules wrap k x start v big) is
      (record {
        older = older;
        downs = downs;
        times = times;
        server = server;
        now = refl;
        set = set;
        own_are = refl;
        fits = fits;
        lost_are = lost_are;
        left = left;
      })

  -- BEHIND A TURN the transfer goes on, or its line is told
  behind : (n : ℕ) → From n → (big w : World) (f : Begun k big far) (way : IsOnWay big) (older : List Row) (a : Option Stage) (b : A) (ups : List Word) (downs : List Passing) (lost : List Lost) (m time times : ℕ) (server : List Entry)
      → f.next ≡ finished k w → Leads n (lossy a b ups (own_words downs) m lost (TURN_OF_TIME * times) time) → Stood w older a b ups downs lost m time times server → Passes k big far Comes
  behind n more big w f way older a b ups downs lost m time times server ends leads stood = by_end (rules.end_of b) refl
    where
      told_so : (s : Status) → rules.end_of b ≡ Some s → ((bytes : ℕ) × LeftDropping k (at_turn x time times server) older (x.lines ++ line_telling (wrap b) s bytes ∷ []) f.next a ups downs m) → Comes f.next
      told_so s end told =
          come_here f.next older a b ups downs lost m time times server (ended_here n (lossy a b ups (own_words downs) m lost (TURN_OF_TIME * times) time) s end leads) stood.set stood.fits
          (all_weaken (IsLostIn k x start w) (IsLostIn k x start f.next) lost
          (same_lost k x start w f.next (ap (λ (z : World). z.numbered) ends ∙ finished_numbered k w)) stood.lost_are)
          (λ status over. (
            told.0,
            subst (λ r. LeftDropping k (at_turn x time times server) older (x.lines ++ line_telling (wrap b) r told.0 ∷ []) f.next a ups downs m) (same_status s status (sym end ∙ over)) told.1,
          ))

      by_end : (o : Option Status) → rules.end_of b ≡ o → Passes k big far Comes
      by_end None end =
          let same : f.next ≡ w =
          ends ∙ finished_on k w (map (up_packet x) ups) (map (passing_packet (at_turn x time times server)) downs) stood.stands.to_server stood.stands.to_client (tasked_with x (wrap b)) stood.task.under (wrapped.ends b ∙ end) in
          further k big far Comes f
          (more f.next (one_further big f way) older a b ups downs lost m time times server end leads (subst (λ z. Stood z older a b ups downs lost m time times server) (sym same) stood) f.run)
      by_end (Some s) end =
          further k big far Comes f
          (here k f.next far Comes f.run
          (told_so s end (over_so k (at_turn x time times server) (wrap b) older w f.next a ups downs m s stood.stands stood.task ends (wrapped.ends b ∙ end))))

  server_step : (n : ℕ) → From n → (big : World) (way : IsOnWay big) (older : List Row) (a : Option Stage) (b : A) (c : Word) (rest : List Word) (downs : List Passing) (lost : List Lost) (m time times : ℕ) (server : List Entry) → rules.end_of b ≡ None
      → Leads n (server_heard lost_number (lossy a b (c ∷ rest) (own_words downs) m lost (TURN_OF_TIME * times) time) rest (session_hears (at_time x.service time) true a c))
      → Stood big older a b (c ∷ rest) downs lost m time times server → RunsOut k big far → Passes k big far Comes
  server_step n more big way older a b c rest downs lost m time times server going leads s run =
      let y : Places = at_turn x time times server in
      let f : Begun k big far = goes_on k big far (up_first k big (up_packet x c) (map (up_packet x) rest) s.stands.to_server) run in
      let t : ServerTurned k y older s.set (keeps.early (TURN_OF_TIME * times) b s.holds) big f.next far a c rest downs m =
      server_turned k y older s.set (keeps.early (TURN_OF_TIME * times) b s.holds) big f.next far a c rest downs m s.stands s.fits f.turn.turn f.run in
      let told : List Word = words_of (session_hears (at_time x.service time) true a c).sayings in
      let after : Option Stage = (session_hears (at_time x.service time) true a c).after in
      let gone : List Lost = missing lost_number (TURN_OF_TIME * times) m told ++ lost in
      behind n more big t.world f way older after b rest (downs ++ map own (kept lost_number m told)) gone (m + length told) time times server t.ends
      (subst (λ (ws : List Word). Leads n (lossy after b rest ws (m + length told) gone (TURN_OF_TIME * times) time)) (sym (own_joined downs (map own (kept lost_number m told)) ∙ ap (λ (ws : List Word). own_words downs ++ ws) (own_all (kept lost_number m told)))) leads)
      (record {
        set = s.set;
        stands = t.stands;
        task = record { under = t.under ∙ s.task.under; lines = t.lines ∙ s.task.lines };
        fits = t.fits;
        holds = s.holds;
        lost_are =
            lost_both big t.world f (missing lost_number (TURN_OF_TIME * times) m told) lost t.ends
            (all_lost_since big t.world f way time times times (TURN_OF_TIME * times) server t.ends t.stands.kept.times refl (missing lost_number (TURN_OF_TIME * times) m told) t.lost) s.lost_are;
      })

  client_step : (n : ℕ) → From n → (big : World) (way : IsOnWay big) (older : List Row) (a : Option Stage) (b : A) (c : Word) (rest : List Passing) (lost : List Lost) (m time times : ℕ) (server : List Entry) → rules.end_of b ≡ None
      → Leads n (client_heard lost_number (lossy a b [] (c ∷ own_words rest) m lost (TURN_OF_TIME * times) time) (own_words rest) (rules.hears b c (TURN_OF_TIME * times)))
      → Stood big older a b [] (own c ∷ rest) lost m time times server → RunsOut k big far → Passes k big far Comes
  client_step n more big way older a b c rest lost m time times server going leads s run =
      let y : Places = at_turn x time times server in
      let f : Begun k big far = goes_on k big far (down_first k big (passing_packet y (own c)) (map (passing_packet y) rest) s.stands.to_server s.stands.to_client) run in
      let t : ClientTurned rules wrap (P (TURN_OF_TIME * times)) k y older s.set (keeps.early (TURN_OF_TIME * times) b s.holds) wrapped (keeps.keeps (TURN_OF_TIME * times)) big f.next far a b c rest m =
      client_turned rules wrap (P (TURN_OF_TIME * times)) k y older s.set (keeps.early (TURN_OF_TIME * times) b s.holds) wrapped (keeps.keeps (TURN_OF_TIME * times)) big f.next far a b c rest m s.stands s.task s.holds going f.turn.turn f.run in
      let told : List Word = words_of (rules.hears b c (TURN_OF_TIME * times)).sayings in
      behind n more big t.world f way older a (rules.hears b c (TURN_OF_TIME * times)).after (kept lost_number m told) rest (missing lost_number (TURN_OF_TIME * times) m told ++ lost) (m + length told) time times server t.ends leads
      (record {
        set = s.set;
        stands = t.stands;
        task = t.task;
        fits = s.fits;
        holds = t.holds;
        lost_are =
            lost_both big t.world f (missing lost_number (TURN_OF_TIME * times) m told) lost t.ends
            (all_lost_since big t.world f way time times times (TURN_OF_TIME * times) server t.ends t.stands.kept.times refl (missing lost_number (TURN_OF_TIME * times) m told) t.lost) s.lost_are;
      })

  time_step : (n : ℕ) → From n → (big : World) (way : IsOnWay big) (older : List Row) (a : Option Stage) (b : A) (lost : List Lost) (m time times : ℕ) (server : List Entry) → rules.end_of b ≡ None
      → Leads n (time_passed lost_number (lossy a b [] [] m lost (TURN_OF_TIME * times) time) (TURN_OF_TIME * times + TIMEOUT) (rules.ticks b (TURN_OF_TIME * times + TIMEOUT))
      (session_ticks x.service.side (TURN_OF_TIME * times + TIMEOUT) a))
      → Stood big older a b [] [] lost m time times server → RunsOut k big far → Passes k big far Comes
  time_step n more big way older a b lost m time times server going leads s run =
      let y : Places = at_turn x time times server in
      let t : ℕ = TURN_OF_TIME * times + TIMEOUT in
      let polls : Stepped A = rules.ticks b t in
      let tick : Stepped (Option Stage) = session_ticks x.service.side t a in
      let ups : List Word = words_of polls.sayings in
      let told : List Word = words_of tick.sayings in
      let gone : List Lost = missing lost_number t (m + length ups) told ++ (missing lost_number t m ups ++ lost) in
      let said : ℕ = m + length ups + length told in
      let next : LossyPair A = lossy tick.after polls.after (kept lost_number m ups) (kept lost_number (m + length ups) told) said gone t t in
      let moment : t ≡ TURN_OF_TIME * (times + 1) = omega arith in
      let in_time : TURN_OF_TIME * times + TIMEOUT + TIMEOUT < 2 ^ 63 = omega (arith, early, leads_later x.service rules lost_number n next last leads) in
      let f : Begun k big far = goes_on k big far (late_first big (tasked_with x (wrap b)) s.stands.to_server s.stands.to_client s.task.under) run in
      let passed : TimePassed rules wrap P k y older s.set wrapped keeps big f.next far a b m =
      passing.time_passed rules wrap P k y older s.set wrapped keeps big f.next far a b m s.stands s.fits s.task s.holds going in_time f.turn.turn f.run in
      let here_lost : (ws : List Lost) → AllByRecursion (IsLostNow k y (length big.numbered) t passed.world) ws → AllByRecursion (IsLostIn k x start passed.world) ws =
      all_lost_since big passed.world f way time times (times + 1) t server passed.ends passed.stands.kept.times moment in
      behind n more big passed.world f way (ticked_rows x.service.side t older) tick.after polls.after (kept lost_number m ups) passed.downs gone said t (times + 1) passed.server passed.ends
      (subst (λ (ws : List Word). Leads n (lossy tick.after polls.after (kept lost_number m ups) ws said gone (TURN_OF_TIME * (times + 1)) t)) (sym passed.own_are)
      (subst (λ now. Leads n (lossy tick.after polls.after (kept lost_number m ups) (kept lost_number (m + length ups) told) said gone now t)) moment leads))
      (record {
        set = passed.still;
        stands = passed.stands;
        task = passed.task;
        fits = passed.fits;
        holds = subst (λ now. P now polls.after) moment passed.holds;
        lost_are =
            all_join (IsLostIn k x start passed.world) (missing lost_number t (m + length ups) told) (missing lost_number t m ups ++ lost) (here_lost (missing lost_number t (m + length ups) told) passed.lost_down)
            (lost_both big passed.world f (missing lost_number t m ups) lost passed.ends (here_lost (missing lost_number t m ups) passed.lost_up) s.lost_are);
      })

  one_step : (n : ℕ) → From n → (big : World) (way : IsOnWay big) (older : List Row) (a : Option Stage) (b : A) (ups : List Word) (downs : List Passing) (lost : List Lost) (m time times : ℕ) (server : List Entry) → rules.end_of b ≡ None
      → Leads n (step_by x.service rules lost_number (lossy a b ups (own_words downs) m lost (TURN_OF_TIME * times) time) ups (own_words downs)) → Stood big older a b ups downs lost m time times server → RunsOut k big far
      → Passes k big far Comes
  one_step n more big way older a b (c ∷ rest) downs lost m time times server going leads s run = server_step n more big way older a b c rest downs lost m time times server going leads s run
  one_step n more big way older a b [] (own c ∷ rest) lost m time times server going leads s run = client_step n more big way older a b c rest lost m time times server going leads s run
  one_step n more big way older a b [] (other stray ∷ rest) lost m time times server going leads s run =
      let y : Places = at_turn x time times server in
      let f : Begun k big far = goes_on k big far (down_first k big (stray_packet stray) (map (passing_packet y) rest) s.stands.to_server s.stands.to_client) run in
      let t : StrayTurned k y older big f.next a rest m =
      stray_under_way rules wrap (P (TURN_OF_TIME * times)) k y older only s.set.places wrapped (keeps.keeps (TURN_OF_TIME * times)) big f.next a b stray rest m s.stands s.task s.holds going f.turn.turn in
      let task : IsUnderWay y (wrap b) t.world = record { under = t.under ∙ s.task.under; lines = t.lines ∙ s.task.lines } in
      let same : f.next ≡ t.world =
      t.ends ∙ finished_on k t.world [] (map (passing_packet y) rest) t.stands.to_server t.stands.to_client (tasked_with x (wrap b)) task.under (wrapped.ends b ∙ going) in
      further k big far Comes f
      (one_step n more f.next (one_further big f way) older a b [] rest lost m time times server going leads
      (subst (λ z. Stood z older a b [] rest lost m time times server) (sym same)
      (record {
        set = s.set;
        stands = t.stands;
        task = task;
        fits = s.fits;
        holds = s.holds;
        lost_are = all_weaken (IsLostIn k x start big) (IsLostIn k x start t.world) lost (same_lost k x start big t.world t.numbered) s.lost_are;
      }))
      f.run)
  one_step n more big way older a b [] [] lost m time times server going leads s run =
      time_step n more big way older a b lost m time times server going
      (subst (λ o. Leads n (waits_by x.service rules lost_number (lossy a b [] [] m lost (TURN_OF_TIME * times) time) o)) going leads) s run

  pub follows : (n : ℕ) → From n
  follows zero = λ big way older a b ups downs lost m time times server going leads s run.
      here k big far Comes run (come_here big older a b ups downs lost m time times server leads s.set s.fits s.lost_are (λ status end. absurd (none_some (rules.end_of b) status going end)))
  follows (suc n) = λ big way older a b ups downs lost m time times server going leads s run. one_step n (follows n) big way older a b ups downs lost m time times server going leads.1 s run
