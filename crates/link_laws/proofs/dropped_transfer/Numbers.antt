-- Which words of a session are lost in a run.
use Rattle.std.proofs.Common.{◌≡◌, ◌≢◌, ℕ, zero, suc, ◌+◌, ◌<◌, ◌≤◌, ◌^◌, ◌==◌, ◌||◌, Bool, true, false, if◌then◌else◌, List, [], ◌∷◌, ◌++◌, length, map, slice_get, Option, Some, is_some, Ok, refl, ap, sym, ◌∙◌, subst, arith, append_assoc, length-append}
use Rattle.std.specs.Prelude.{cond, count_by}
use Rattle.std.specs.List.{AllByRecursion}
use Rattle.std.proofs.lemmas.Bool.{and_from, and_right, eq-eqb, eqb-true, ne_eqb, or_from}
use Rattle.std.proofs.lemmas.List.Sums.{sum_by-append, sum_by-cons}
use Rattle.link_script.specs.declared.loss.Loss.{Loss}
use Rattle.link_script.specs.lossy.Link.{loss_of}
use Rattle.rpc_ids.specs.declared.Status.TheVariants.{Okay}
use Rattle.rpc_packet.specs.declared.call_name.CallName.{CallName}
use Rattle.rpc_packet.specs.declared.owned.Packet.{Packet}
use Rattle.rpc_packet.specs.declared.packet_type.PacketType.{PacketType}
use Rattle.rpc_packet.specs.declared.packet_type.PacketType.TheVariants.{ClientStream, ServerStream}
use Rattle.history_laws.proofs.messages.Members.{all_join, all_weaken}
use Rattle.transfer_chunk.specs.Reading.{chunk_of}
use Rattle.transfer_words.specs.Saying.{Saying, says, begins, appends, commits, leaves}
use Rattle.transfer_words.specs.Spoken.{FitsChunk, spoken, text_in}
use Rattle.transfer_words.specs.Word.{Word, start, start_ack, confirmation, parameters, data_comes, completion, completion_ack}
use Rattle.transfer_words.proofs.SpokenLaws.{words_are_heard}
use Rattle.demo_services.specs.Methods.{transfer_id}
use Rattle.transfer_laws.proofs.words.Receivers.{AllFit}
use Rattle.transfer_laws.specs.pairs.Pair.{words_of}
use Rattle.transfer_laws.specs.losses.Drops.{Lost, kept, lost_at, missing}
use Rattle.transfer_laws.specs.losses.Survives.{is_among}
use Rattle.link_laws.specs.world.Lines.{finished}
use Rattle.history_laws.specs.messages.Messages.{is_stream}
use Rattle.link_laws.specs.world.Reports.{carries_chunk}
use Rattle.link_laws.specs.world.World.{Setup, World}
use Rattle.link_laws.proofs.plain_calls.Numbers.{finished_numbered, numbered_grow}
use Rattle.link_laws.proofs.plain_calls.Spared.{get_seam}
use Rattle.link_laws.specs.lossless_transfer.Chunks.{is_chunk_of, names_session}
use Rattle.link_laws.specs.lossless_transfer.Finishes.{RunsOut}
use Rattle.link_laws.specs.lossless_transfer.Shows.{ArePlaces, Places, down_packet, packet_saying, up_packet}
use Rattle.link_laws.specs.dropped_transfer.Dropped.{is_dropped, lost_among, lost_numbers, loses}
use Rattle.link_laws.specs.dropped_transfer.Passing.{MayPass, Passing, Stray, other, own, own_words, passing_packet, stray_packet}
use Rattle.link_laws.specs.dropped_transfer.Shows.{HasNumbered, IsLostIn}
use Rattle.link_laws.proofs.dropped_transfer.Links.{going_on}

-- the word was said by one of the ends behind so many frames, at this moment, in a frame that is dropped
pub record IsLostNow (k : Setup) (x : Places) (from now : ℕ) (big : World) (l : Lost) : Type 0 where
  pub place : ℕ
  pub type : PacketType
  pub message : is_stream type ≡ true
  pub there : slice_get big.numbered place ≡ Some (packet_saying type x.client_opening.name x.session l.word)
  pub dropped : is_dropped k (suc place) ≡ true
  pub fits : FitsChunk l.word
  pub later : from ≤ place
  pub moment : l.moment ≡ now

-- what is numbered in a world begins what is numbered in the whole run, also before the end of the turn
pub grown_from : (k : Setup) (now world far : World) → now ≡ finished k world → RunsOut k now far → (more : List Packet) × (far.numbered ≡ world.numbered ++ more)
grown_from k now world far ends run =
    let more = numbered_grow k run.total now far run.turns in
    (more.0, more.1 ∙ ap (λ (ps : List Packet). ps ++ more.0) (ap (λ (w : World). w.numbered) ends ∙ finished_numbered k world))

-- HOW MANY PASS A TEST
module _ {A : Type 0} (test : A → Bool) where
  pub counted : (b : Bool) (x : A) (xs : List A) → test x ≡ b → count_by test (x ∷ xs) ≡ cond b 1 0 + count_by test xs
  counted b x xs is = sum_by-cons (λ y. cond (test y) 1 0) x xs ∙ ap (λ t. cond t 1 0 + count_by test xs) is

  pub count_joined : (xs ys : List A) → count_by test (xs ++ ys) ≡ count_by test xs + count_by test ys
  count_joined xs ys = sum_by-append (λ y. cond (test y) 1 0) xs ys

module _ (mine : Packet → Bool) (dropped : ℕ → Bool) where
  -- the words that are lost behind so many have larger numbers
  none_before : (ps : List Packet) (frames words n : ℕ) → n ≤ words → is_among (lost_among mine dropped frames words ps) n ≡ false
  none_before [] frames words n few = refl
  none_before (p ∷ ps) frames words n few = by (mine p) (dropped (suc frames)) (none_before ps (suc frames) (suc words) n (omega (arith, few))) (none_before ps (suc frames) words n few)
    where
      by : (o d : Bool) → is_among (lost_among mine dropped (suc frames) (suc words) ps) n ≡ false → is_among (lost_among mine dropped (suc frames) words ps) n ≡ false
          → is_among (if o then (if d then suc words ∷ lost_among mine dropped (suc frames) (suc words) ps else lost_among mine dropped (suc frames) (suc words) ps) else lost_among mine dropped (suc frames) words ps) n ≡ false
      by true true later same = or_from (suc words == n) (is_among (lost_among mine dropped (suc frames) (suc words) ps) n) (ne_eqb (suc words) n (λ is. omega (arith, is, few))) later
      by true false later same = later
      by false d later same = same

  -- THE WORD BEHIND THESE IS LOST WHERE ITS FRAME IS DROPPED
  pub number_lost : (ps : List Packet) (p : Packet) (qs : List Packet) (frames words n m : ℕ) → mine p ≡ true → n ≡ suc (words + count_by mine ps) → m ≡ suc (frames + length ps)
      → is_among (lost_among mine dropped frames words (ps ++ p ∷ qs)) n ≡ dropped m
  number_lost [] p qs frames words n m is number frame =
      subst (λ f. is_among (lost_among mine dropped frames words (p ∷ qs)) n ≡ dropped f) frame_is (rw is (by (dropped (suc frames))))
    where
      frame_is : suc frames ≡ m
      frame_is = omega (arith, frame)

      by : (d : Bool) → is_among (if d then suc words ∷ lost_among mine dropped (suc frames) (suc words) qs else lost_among mine dropped (suc frames) (suc words) qs) n ≡ d
      by true = rw (eq-eqb (suc words) n (omega (arith, number))) refl
      by false = none_before qs (suc frames) (suc words) n (omega (arith, number))
  number_lost (q ∷ ps) p qs frames words n m is number frame = by (mine q) refl (dropped (suc frames)) (λ next number. number_lost ps p qs (suc frames) next n m is number (omega (arith, frame)))
    where
      by : (o : Bool) → mine q ≡ o → (d : Bool) → ((next : ℕ) → n ≡ suc (next + count_by mine ps) → is_among (lost_among mine dropped (suc frames) next (ps ++ p ∷ qs)) n ≡ dropped m)
          → is_among (if o then (if d then suc words ∷ lost_among mine dropped (suc frames) (suc words) (ps ++ p ∷ qs) else lost_among mine dropped (suc frames) (suc words) (ps ++ p ∷ qs)) else lost_among mine dropped (suc frames) words (ps ++ p ∷ qs)) n ≡ dropped m
      by true one true later = rw (ne_eqb (suc words) n (λ same. omega (arith, same, number, counted mine true q ps one))) (later (suc words) (omega (arith, number, counted mine true q ps one)))
      by true one false later = later (suc words) (omega (arith, number, counted mine true q ps one))
      by false none d later = later words (omega (arith, number, counted mine false q ps none))

-- NO MORE WORDS ARE LOST THAN FRAMES ARE DROPPED
module _ (mine : Packet → Bool) where
  abbrev lost_count : (ℕ → Bool) → ℕ → ℕ → List Packet → ℕ
  lost_count dropped frames words ps = length (lost_among mine dropped frames words ps)

  -- none is, behind the frame that is dropped
  none_behind : (frame : ℕ) (ps : List Packet) (frames words : ℕ) → frame ≤ frames → lost_count (λ n. frame == n) frames words ps ≡ 0
  none_behind frame [] frames words past = refl
  none_behind frame (p ∷ ps) frames words past = rw (ne_eqb frame (suc frames) (λ same. omega (arith, same, past))) (by (mine p) (λ next. none_behind frame ps (suc frames) next (omega (arith, past))))
    where
      by : (o : Bool) → ((next : ℕ) → lost_count (λ n. frame == n) (suc frames) next ps ≡ 0)
          → length (if o then lost_among mine (λ n. frame == n) (suc frames) (suc words) ps else lost_among mine (λ n. frame == n) (suc frames) words ps) ≡ 0
      by true later = later (suc words)
      by false later = later words

  one_dropped : (frame : ℕ) (ps : List Packet) (frames words : ℕ) → lost_count (λ n. frame == n) frames words ps ≤ 1
  one_dropped frame [] frames words = omega arith
  one_dropped frame (p ∷ ps) frames words = by (mine p) (frame == suc frames) refl (λ next. one_dropped frame ps (suc frames) next)
    where
      by : (o d : Bool) → (frame == suc frames) ≡ d → ((next : ℕ) → lost_count (λ n. frame == n) (suc frames) next ps ≤ 1)
          → length (if o then (if d then suc words ∷ lost_among mine (λ n. frame == n) (suc frames) (suc words) ps else lost_among mine (λ n. frame == n) (suc frames) (suc words) ps) else lost_among mine (λ n. frame == n) (suc frames) words ps) ≤ 1
      by true true here later = omega (arith, none_behind frame ps (suc frames) (suc words) (omega (arith, eqb-true frame (suc frames) here)))
      by true false here later = later (suc words)
      by false d here later = later words

  module _ (first : ℕ × Loss) (losses : List (ℕ × Loss)) where
    abbrev all_losses : ℕ → Bool
    all_losses n = is_some (loss_of n (first ∷ losses))

    abbrev this : ℕ → Bool
    this n = first.0 == n

    abbrev others : ℕ → Bool
    others n = is_some (loss_of n losses)

    abbrev listed : ℕ → ℕ → List Packet → Bool → Bool → (ℕ → Bool) → List ℕ
    listed frames words ps o d dropped =
        if o then (if d then suc words ∷ lost_among mine dropped (suc frames) (suc words) ps else lost_among mine dropped (suc frames) (suc words) ps) else lost_among mine dropped (suc frames) words ps

    one_more : (ps : List Packet) (frames words : ℕ) → lost_count all_losses frames words ps ≤ lost_count this frames words ps + lost_count others frames words ps
    one_more [] frames words = omega arith
    one_more (p ∷ ps) frames words = by (mine p) (first.0 == suc frames) (is_some (loss_of (suc frames) losses)) refl (λ next. one_more ps (suc frames) next)
      where
        by : (o a b : Bool) → is_some (loss_of (suc frames) losses) ≡ b → ((next : ℕ) → lost_count all_losses (suc frames) next ps ≤ lost_count this (suc frames) next ps + lost_count others (suc frames) next ps)
            → length (listed frames words ps o (is_some (if a then Some first.1 else loss_of (suc frames) losses)) all_losses) ≤ length (listed frames words ps o a this) + length (listed frames words ps o b others)
        by true true true is later = omega (arith, later (suc words))
        by true true false is later = omega (arith, later (suc words))
        by true false true is later = rw is (omega (arith, later (suc words)))
        by true false false is later = rw is (later (suc words))
        by false a b is later = later words

  no_more : (losses : List (ℕ × Loss)) (ps : List Packet) → lost_count (λ n. is_some (loss_of n losses)) 0 0 ps ≤ length losses
  no_more [] ps = omega (arith, none ps 0 0)
    where
      none : (ps : List Packet) (frames words : ℕ) → lost_count (λ n. false) frames words ps ≡ 0
      none [] frames words = refl
      none (p ∷ ps) frames words = by (mine p) (λ next. none ps (suc frames) next)
        where
          by : (o : Bool) → ((next : ℕ) → lost_count (λ n. false) (suc frames) next ps ≡ 0) → length (if o then lost_among mine (λ n. false) (suc frames) (suc words) ps else lost_among mine (λ n. false) (suc frames) words ps) ≡ 0
          by true later = later (suc words)
          by false later = later words
  no_more (first ∷ losses) ps = omega (arith, one_more first losses ps 0 0, one_dropped first.0 ps 0 0, no_more losses ps)

-- no more words of a session are lost than frames are dropped
pub lost_few : (k : Setup) (session : ℕ) (far : World) → length (lost_numbers k session far) ≤ length k.losses
lost_few k session far = no_more (is_chunk_of session) k.losses far.numbered

-- THE CHUNK OF A WORD IS ONE OF ITS SESSION
names_own : (session : ℕ) (w : Word) → names_session session (Ok (spoken session w)) ≡ true
names_own session w = at w (eq-eqb session session refl)
  where
    at : (w : Word) → (session == session) ≡ true → names_session session (Ok (spoken session w)) ≡ true
    at (start resource offset) same = same
    at (start_ack offset) same = ap (λ b. b || false) same
    at (confirmation ask) same = ap (λ b. b || false) same
    at (parameters ask) same = ap (λ b. b || false) same
    at (data_comes p) same = ap (λ b. b || false) same
    at (completion status) same = ap (λ b. b || false) same
    at completion_ack same = ap (λ b. b || false) same

-- and of no other
names_no_other : (session another : ℕ) (w : Word) → session ≢ another → names_session another (Ok (spoken session w)) ≡ false
names_no_other session another w apart = at w (ne_eqb session another apart)
  where
    at : (w : Word) → (session == another) ≡ false → names_session another (Ok (spoken session w)) ≡ false
    at (start resource offset) unlike = unlike
    at (start_ack offset) unlike = ap (λ b. b || false) unlike
    at (confirmation ask) unlike = ap (λ b. b || false) unlike
    at (parameters ask) unlike = ap (λ b. b || false) unlike
    at (data_comes p) unlike = ap (λ b. b || false) unlike
    at (completion status) unlike = ap (λ b. b || false) unlike
    at completion_ack unlike = ap (λ b. b || false) unlike

pub is_own : (type : PacketType) (name : CallName) (session : ℕ) (w : Word) → session < 2 ^ 32 → FitsChunk w → is_stream type ≡ true → name.service ≡ transfer_id
    → is_chunk_of session (packet_saying type name session w) ≡ true
is_own type name session w small fits message service =
    and_from (carries_chunk (packet_saying type name session w)) (names_session session (chunk_of (text_in session w)))
    (and_from (is_stream type) (name.service == transfer_id) message (eq-eqb name.service transfer_id service))
    (ap (names_session session) (words_are_heard session w small fits).read ∙ names_own session w)

pub is_no_other : (type : PacketType) (name : CallName) (session another : ℕ) (w : Word) → session < 2 ^ 32 → FitsChunk w → session ≢ another
    → is_chunk_of another (packet_saying type name session w) ≡ false
is_no_other type name session another w small fits apart =
    and_right (carries_chunk (packet_saying type name session w)) (names_session another (chunk_of (text_in session w)))
    (ap (names_session another) (words_are_heard session w small fits).read ∙ names_no_other session another w apart)

-- the words that are said fit chunks
pub words_fit : (ss : List Saying) → AllFit ss → AllByRecursion FitsChunk (words_of ss)
words_fit [] fits = tt
words_fit (says w ∷ ss) fits = (fits.0, words_fit ss fits.1)
words_fit (begins resource offset ∷ ss) fits = words_fit ss fits.1
words_fit (appends bytes ∷ ss) fits = words_fit ss fits.1
words_fit (commits ∷ ss) fits = words_fit ss fits.1
words_fit (leaves ∷ ss) fits = words_fit ss fits.1

-- what is on its way to the client, where all of it is the transfer's
pub own_all : (ws : List Word) → own_words (map own ws) ≡ ws
own_all [] = refl
own_all (w ∷ ws) = ap (λ rest. w ∷ rest) (own_all ws)

pub own_packets : (x : Places) (ws : List Word) → map (passing_packet x) (map own ws) ≡ map (down_packet x) ws
own_packets x [] = refl
own_packets x (w ∷ ws) = ap (λ rest. down_packet x w ∷ rest) (own_packets x ws)

pub own_joined : (ps qs : List Passing) → own_words (ps ++ qs) ≡ own_words ps ++ own_words qs
own_joined [] qs = refl
own_joined (own w ∷ ps) qs = ap (λ rest. w ∷ rest) (own_joined ps qs)
own_joined (other s ∷ ps) qs = own_joined ps qs

get_front : {A : Type 0} (xs ys : List A) (i : ℕ) (y : A) → slice_get xs i ≡ Some y → slice_get (xs ++ ys) i ≡ Some y
get_front [] ys i y there = absurd cc
get_front (x ∷ xs) ys zero y there = there
get_front (x ∷ xs) ys (suc i) y there = get_front xs ys i y there

-- one more was numbered
behind_one : (before : List Packet) (p : Packet) → length (before ++ p ∷ []) ≡ suc (length before)
behind_one before p = omega (arith, length-append before (p ∷ []))

one_counted : (test : Packet → Bool) (b : Bool) (before : List Packet) (p : Packet) (n : ℕ) → count_by test before ≡ n → test p ≡ b → count_by test (before ++ p ∷ []) ≡ n + cond b 1 0
one_counted test b before p n many is = count_joined test before (p ∷ []) ∙ omega (arith, many, counted test b p [] is)

-- WHAT A SESSION SAYS
module _ (k : Setup) (x : Places) (small : x.session < 2 ^ 32) (service : x.client_opening.name.service ≡ transfer_id) where
  abbrev test : Packet → Bool
  test = is_chunk_of x.session

  stray_not_own : (s : Stray) → s.session < x.session → test (stray_packet s) ≡ false
  stray_not_own s older = is_no_other ServerStream s.name s.session x.session (completion Okay) (omega (arith, small, older)) tt (λ same. omega (arith, same, older))

  -- words of one of the ends
  module _ (type : PacketType) (message : is_stream type ≡ true) (name : CallName) (named : x.client_opening.name ≡ name) where
    abbrev saying : Word → Packet
    saying w = packet_saying type name x.session w

    says_own : (w : Word) → FitsChunk w → test (saying w) ≡ true
    says_own w fits = is_own type name x.session w small fits message (ap (λ (n : CallName). n.service) (sym named) ∙ service)

    more_words : (before : List Packet) (w : Word) (n : ℕ) → FitsChunk w → count_by test before ≡ n → count_by test (before ++ saying w ∷ []) ≡ suc n
    more_words before w n fits many = omega (arith, one_counted test true before (saying w) n many (says_own w fits))

    counted_words : (ws : List Word) → AllByRecursion FitsChunk ws → count_by test (map saying ws) ≡ length ws
    counted_words [] fits = refl
    counted_words (w ∷ ws) fits = counted test true (saying w) (map saying ws) (says_own w fits.0) ∙ omega (arith, counted_words ws fits.1)

    words_not_later : (ws : List Word) → AllByRecursion FitsChunk ws → AllByRecursion (λ p. (later : ℕ) → x.session < later → is_chunk_of later p ≡ false) (map saying ws)
    words_not_later [] fits = tt
    words_not_later (w ∷ ws) fits =
        ((λ later after. is_no_other type name x.session later w small fits.0 (λ same. omega (arith, same, after))), words_not_later ws fits.1)

    words_numbered : (before : List Packet) (ws : List Word) (n : ℕ) → AllByRecursion FitsChunk ws → HasNumbered x.session before n → HasNumbered x.session (before ++ map saying ws) (n + length ws)
    words_numbered before ws n fits old = record {
      words = count_joined test before (map saying ws) ∙ omega (arith, old.words, counted_words ws fits);
      none_later = all_join (λ (p : Packet). (later : ℕ) → x.session < later → is_chunk_of later p ≡ false) before (map saying ws) old.none_later (words_not_later ws fits);
    }

  as_named : (type : PacketType) (name : CallName) → x.client_opening.name ≡ name → (w : Word) → Some (packet_saying type name x.session w) ≡ Some (packet_saying type x.client_opening.name x.session w)
  as_named type name named w = ap {A = CallName} {B = Option Packet} (λ n. Some (packet_saying type n x.session w)) (sym named)

  -- what passes to the client
  module _ (named : x.client_opening.name ≡ x.server_opening.name) where
    counted_downs : (ps : List Passing) → AllByRecursion (MayPass k x) ps → count_by test (map (passing_packet x) ps) ≡ length (own_words ps)
    counted_downs [] may = refl
    counted_downs (own w ∷ ps) may = counted test true (down_packet x w) (map (passing_packet x) ps) (says_own ServerStream refl x.server_opening.name named w may.0) ∙ omega (arith, counted_downs ps may.1)
    counted_downs (other s ∷ ps) may = counted test false (stray_packet s) (map (passing_packet x) ps) (stray_not_own s may.0.0) ∙ omega (arith, counted_downs ps may.1)

    downs_not_later : (ps : List Passing) → AllByRecursion (MayPass k x) ps → AllByRecursion (λ p. (later : ℕ) → x.session < later → is_chunk_of later p ≡ false) (map (passing_packet x) ps)
    downs_not_later [] may = tt
    downs_not_later (own w ∷ ps) may =
        ((λ later after. is_no_other ServerStream x.server_opening.name x.session later w small may.0 (λ same. omega (arith, same, after))), downs_not_later ps may.1)
    downs_not_later (other s ∷ ps) may =
        ((λ later after. is_no_other ServerStream s.name s.session later (completion Okay) (omega (arith, small, may.0.0)) tt (λ same. omega (arith, same, after, may.0.0))), downs_not_later ps may.1)

    downs_numbered : (before : List Packet) (ps : List Passing) (n : ℕ) → AllByRecursion (MayPass k x) ps → HasNumbered x.session before n → HasNumbered x.session (before ++ map (passing_packet x) ps) (n + length (own_words ps))
    downs_numbered before ps n may old = record {
      words = count_joined test before (map (passing_packet x) ps) ∙ omega (arith, old.words, counted_downs ps may);
      none_later = all_join (λ (p : Packet). (later : ℕ) → x.session < later → is_chunk_of later p ≡ false) before (map (passing_packet x) ps) old.none_later (downs_not_later ps may);
    }

  -- A RUN IN WHICH THESE WERE NUMBERED
  module _ (far : World) where
    abbrev lost : ℕ → Bool
    lost = loses k x.session far

    abbrev goes : {A : Type 0} → ℕ → List A → List A
    goes frames passing = going_on (is_dropped k) frames passing

    -- the word that comes next is lost where its frame is dropped
    next_lost : (before : List Packet) (p : Packet) (more : List Packet) (n : ℕ) → far.numbered ≡ before ++ (p ∷ more) → count_by test before ≡ n → test p ≡ true
        → lost (suc n) ≡ is_dropped k (suc (length before))
    next_lost before p more n are many is =
        ap (λ (ps : List Packet). is_among (lost_among test (is_dropped k) 0 0 ps) (suc n)) are
        ∙ number_lost test (is_dropped k) before p more 0 0 (suc n) (suc (length before)) is (omega (arith, many)) (omega arith)

    module _ (type : PacketType) (message : is_stream type ≡ true) (name : CallName) (named : x.client_opening.name ≡ name) where
      words_go_on : (before more : List Packet) (ws : List Word) (n frames : ℕ) → far.numbered ≡ before ++ (map (saying type message name named) ws ++ more) → length before ≡ frames → count_by test before ≡ n
          → AllByRecursion FitsChunk ws → goes frames ws ≡ kept lost n ws
      words_go_on before more [] n frames are long many fits = refl
      words_go_on before more (w ∷ ws) n frames are long many fits =
          by (is_dropped k (suc frames)) (next_lost before (saying type message name named w) (map (saying type message name named) ws ++ more) n are many (says_own type message name named w fits.0) ∙ ap (λ m. is_dropped k (suc m)) long)
          (words_go_on (before ++ saying type message name named w ∷ []) more ws (suc n) (suc frames) (are ∙ sym (append_assoc before (saying type message name named w ∷ []) (map (saying type message name named) ws ++ more))) (behind_one before (saying type message name named w) ∙ ap suc long)
          (more_words type message name named before w n fits.0 many) fits.1)
        where
          by : (d : Bool) → lost (suc n) ≡ d → goes (suc frames) ws ≡ kept lost (suc n) ws
              → (if d then goes (suc frames) ws else w ∷ goes (suc frames) ws) ≡ (if lost (suc n) then kept lost (suc n) ws else w ∷ kept lost (suc n) ws)
          by true is rest = rw is rest
          by false is rest = rw is (ap (λ more. w ∷ more) rest)

      -- those that don't were said in frames that are dropped
      words_lost : (big : World) (more before : List Packet) (ws : List Word) (from now n : ℕ) → from ≤ length before → far.numbered ≡ big.numbered ++ more → big.numbered ≡ before ++ map (saying type message name named) ws → count_by test before ≡ n
          → AllByRecursion FitsChunk ws → AllByRecursion (IsLostNow k x from now big) (missing lost now n ws)
      words_lost big more before [] from now n behind grown are many fits = tt
      words_lost big more before (w ∷ ws) from now n behind grown are many fits =
          by (is_dropped k (suc (length before))) refl
          (next_lost before (saying type message name named w) (map (saying type message name named) ws ++ more) n (grown ∙ (ap (λ (ps : List Packet). ps ++ more) are ∙ append_assoc before (saying type message name named w ∷ map (saying type message name named) ws) more)) many (says_own type message name named w fits.0))
          (words_lost big more (before ++ saying type message name named w ∷ []) ws from now (suc n) (omega (arith, behind, behind_one before (saying type message name named w))) grown (are ∙ sym (append_assoc before (saying type message name named w ∷ []) (map (saying type message name named) ws))) (more_words type message name named before w n fits.0 many) fits.1)
        where
          by : (d : Bool) → is_dropped k (suc (length before)) ≡ d → lost (suc n) ≡ is_dropped k (suc (length before)) → AllByRecursion (IsLostNow k x from now big) (missing lost now (suc n) ws)
              → AllByRecursion (IsLostNow k x from now big) (if lost (suc n) then lost_at now w ∷ missing lost now (suc n) ws else missing lost now (suc n) ws)
          by true here is rest =
              rw (is ∙ here)
              (record { place = length before; type = type; message = message; there = ap (λ (ps : List Packet). slice_get ps (length before)) are ∙ (get_seam before (saying type message name named w) (map (saying type message name named) ws) ∙ as_named type name named w); dropped = here; fits = fits.0; later = behind; moment = refl }, rest)
          by false here is rest = rw (is ∙ here) rest

    -- what passes to the client
    module _ (named : x.client_opening.name ≡ x.server_opening.name) where
      downs_go_on : (before more : List Packet) (ps : List Passing) (n frames : ℕ) → far.numbered ≡ before ++ (map (passing_packet x) ps ++ more) → length before ≡ frames → count_by test before ≡ n
          → AllByRecursion (MayPass k x) ps → own_words (goes frames ps) ≡ kept lost n (own_words ps)
      downs_go_on before more [] n frames are long many may = refl
      downs_go_on before more (own w ∷ ps) n frames are long many may =
          by (is_dropped k (suc frames)) (next_lost before (down_packet x w) (map (passing_packet x) ps ++ more) n are many (says_own ServerStream refl x.server_opening.name named w may.0) ∙ ap (λ m. is_dropped k (suc m)) long)
          (downs_go_on (before ++ down_packet x w ∷ []) more ps (suc n) (suc frames) (are ∙ sym (append_assoc before (down_packet x w ∷ []) (map (passing_packet x) ps ++ more))) (behind_one before (down_packet x w) ∙ ap suc long)
          (more_words ServerStream refl x.server_opening.name named before w n may.0 many) may.1)
        where
          by : (d : Bool) → lost (suc n) ≡ d → own_words (goes (suc frames) ps) ≡ kept lost (suc n) (own_words ps)
              → own_words (if d then goes (suc frames) ps else own w ∷ goes (suc frames) ps) ≡ (if lost (suc n) then kept lost (suc n) (own_words ps) else w ∷ kept lost (suc n) (own_words ps))
          by true is rest = rw is rest
          by false is rest = rw is (ap (λ more. w ∷ more) rest)
      downs_go_on before more (other s ∷ ps) n frames are long many may =
          by (is_dropped k (suc frames))
          (downs_go_on (before ++ stray_packet s ∷ []) more ps n (suc frames) (are ∙ sym (append_assoc before (stray_packet s ∷ []) (map (passing_packet x) ps ++ more))) (behind_one before (stray_packet s) ∙ ap suc long)
          (omega (arith, one_counted test false before (stray_packet s) n many (stray_not_own s may.0.0))) may.1)
        where
          by : (d : Bool) → own_words (goes (suc frames) ps) ≡ kept lost n (own_words ps) → own_words (if d then goes (suc frames) ps else other s ∷ goes (suc frames) ps) ≡ kept lost n (own_words ps)
          by true rest = rest
          by false rest = rest

      downs_lost : (big : World) (more before : List Packet) (ps : List Passing) (from now n : ℕ) → from ≤ length before → far.numbered ≡ big.numbered ++ more → big.numbered ≡ before ++ map (passing_packet x) ps → count_by test before ≡ n
          → AllByRecursion (MayPass k x) ps → AllByRecursion (IsLostNow k x from now big) (missing lost now n (own_words ps))
      downs_lost big more before [] from now n behind grown are many may = tt
      downs_lost big more before (own w ∷ ps) from now n behind grown are many may =
          by (is_dropped k (suc (length before))) refl
          (next_lost before (down_packet x w) (map (passing_packet x) ps ++ more) n (grown ∙ (ap (λ (qs : List Packet). qs ++ more) are ∙ append_assoc before (down_packet x w ∷ map (passing_packet x) ps) more)) many
          (says_own ServerStream refl x.server_opening.name named w may.0))
          (downs_lost big more (before ++ down_packet x w ∷ []) ps from now (suc n) (omega (arith, behind, behind_one before (down_packet x w))) grown (are ∙ sym (append_assoc before (down_packet x w ∷ []) (map (passing_packet x) ps))) (more_words ServerStream refl x.server_opening.name named before w n may.0 many) may.1)
        where
          by : (d : Bool) → is_dropped k (suc (length before)) ≡ d → lost (suc n) ≡ is_dropped k (suc (length before)) → AllByRecursion (IsLostNow k x from now big) (missing lost now (suc n) (own_words ps))
              → AllByRecursion (IsLostNow k x from now big) (if lost (suc n) then lost_at now w ∷ missing lost now (suc n) (own_words ps) else missing lost now (suc n) (own_words ps))
          by true here is rest =
              rw (is ∙ here)
              (record { place = length before; type = ServerStream; message = refl; there = ap (λ (qs : List Packet). slice_get qs (length before)) are ∙ (get_seam before (down_packet x w) (map (passing_packet x) ps) ∙ as_named ServerStream x.server_opening.name named w); dropped = here; fits = may.0; later = behind; moment = refl }, rest)
          by false here is rest = rw (is ∙ here) rest
      downs_lost big more before (other s ∷ ps) from now n behind grown are many may =
          downs_lost big more (before ++ stray_packet s ∷ []) ps from now n (omega (arith, behind, behind_one before (stray_packet s))) grown (are ∙ sym (append_assoc before (stray_packet s ∷ []) (map (passing_packet x) ps)))
          (omega (arith, one_counted test false before (stray_packet s) n many (stray_not_own s may.0.0))) may.1

-- OF WHAT PASSES TO THE CLIENT THE WORDS GO ON THAT AREN'T LOST
pub words_kept : (k : Setup) (x : Places) (far : World) (before more : List Packet) (ps : List Passing) (n : ℕ) → ArePlaces x → far.numbered ≡ (before ++ map (passing_packet x) ps) ++ more
    → HasNumbered x.session before n → x.client_opening.name.service ≡ transfer_id → AllByRecursion (MayPass k x) ps → own_words (going_on (is_dropped k) (length before) ps) ≡ kept (loses k x.session far) n (own_words ps)
words_kept k x far before more ps n are_places are said service may =
    downs_go_on k x are_places.session service far are_places.named before more ps n (length before) (are ∙ append_assoc before (map (passing_packet x) ps) more) refl said.words may

-- so it is with the words of the server that go alone
pub words_kept_down : (k : Setup) (x : Places) (far : World) (before more : List Packet) (ws : List Word) (n : ℕ) → ArePlaces x → far.numbered ≡ (before ++ map (down_packet x) ws) ++ more
    → HasNumbered x.session before n → x.client_opening.name.service ≡ transfer_id → AllByRecursion FitsChunk ws → going_on (is_dropped k) (length before) ws ≡ kept (loses k x.session far) n ws
words_kept_down k x far before more ws n are_places are said service fits =
    words_go_on k x are_places.session service far ServerStream refl x.server_opening.name are_places.named before more ws n (length before) (are ∙ append_assoc before (map (down_packet x) ws) more) refl said.words fits

-- and with those of the client
pub words_kept_up : (k : Setup) (x : Places) (far : World) (before more : List Packet) (ws : List Word) (n : ℕ) → x.session < 2 ^ 32 → far.numbered ≡ (before ++ map (up_packet x) ws) ++ more
    → HasNumbered x.session before n → x.client_opening.name.service ≡ transfer_id → AllByRecursion FitsChunk ws → going_on (is_dropped k) (length before) ws ≡ kept (loses k x.session far) n ws
words_kept_up k x far before more ws n small are said service fits =
    words_go_on k x small service far ClientStream refl x.client_opening.name refl before more ws n (length before) (are ∙ append_assoc before (map (up_packet x) ws) more) refl said.words fits

-- THOSE THAT ARE LOST WERE SAID IN DROPPED FRAMES
pub lost_down : (k : Setup) (x : Places) (big far : World) (before more : List Packet) (ps : List Passing) (from now n : ℕ) → from ≤ length before → ArePlaces x → big.numbered ≡ before ++ map (passing_packet x) ps → far.numbered ≡ big.numbered ++ more
    → HasNumbered x.session before n → x.client_opening.name.service ≡ transfer_id → AllByRecursion (MayPass k x) ps → AllByRecursion (IsLostNow k x from now big) (missing (loses k x.session far) now n (own_words ps))
lost_down k x big far before more ps from now n behind are_places are grown said service may = downs_lost k x are_places.session service far are_places.named big more before ps from now n behind grown are said.words may

-- the server's alone, and the client's
pub lost_down_alone : (k : Setup) (x : Places) (big far : World) (before more : List Packet) (ws : List Word) (from now n : ℕ) → from ≤ length before → ArePlaces x → big.numbered ≡ before ++ map (down_packet x) ws → far.numbered ≡ big.numbered ++ more
    → HasNumbered x.session before n → x.client_opening.name.service ≡ transfer_id → AllByRecursion FitsChunk ws → AllByRecursion (IsLostNow k x from now big) (missing (loses k x.session far) now n ws)
lost_down_alone k x big far before more ws from now n behind are_places are grown said service fits = words_lost k x are_places.session service far ServerStream refl x.server_opening.name are_places.named big more before ws from now n behind grown are said.words fits

pub lost_up : (k : Setup) (x : Places) (big far : World) (before more : List Packet) (ws : List Word) (from now n : ℕ) → from ≤ length before → x.session < 2 ^ 32 → big.numbered ≡ before ++ map (up_packet x) ws → far.numbered ≡ big.numbered ++ more
    → HasNumbered x.session before n → x.client_opening.name.service ≡ transfer_id → AllByRecursion FitsChunk ws → AllByRecursion (IsLostNow k x from now big) (missing (loses k x.session far) now n ws)
lost_up k x big far before more ws from now n behind small are grown said service fits = words_lost k x small service far ClientStream refl x.client_opening.name refl big more before ws from now n behind grown are said.words fits

-- SO MANY WORDS MORE WERE SAID BEHIND THAT
pub numbered_more : (k : Setup) (x : Places) (before : List Packet) (ps : List Passing) (n : ℕ) → ArePlaces x → x.client_opening.name.service ≡ transfer_id → AllByRecursion (MayPass k x) ps
    → HasNumbered x.session before n → HasNumbered x.session (before ++ map (passing_packet x) ps) (n + length (own_words ps))
numbered_more k x before ps n are_places service may said = downs_numbered k x are_places.session service are_places.named before ps n may said

pub numbered_more_down : (k : Setup) (x : Places) (before : List Packet) (ws : List Word) (n : ℕ) → ArePlaces x → x.client_opening.name.service ≡ transfer_id → AllByRecursion FitsChunk ws
    → HasNumbered x.session before n → HasNumbered x.session (before ++ map (down_packet x) ws) (n + length ws)
numbered_more_down k x before ws n are_places service fits said = words_numbered k x are_places.session service ServerStream refl x.server_opening.name are_places.named before ws n fits said

pub numbered_more_up : (k : Setup) (x : Places) (before : List Packet) (ws : List Word) (n : ℕ) → x.session < 2 ^ 32 → x.client_opening.name.service ≡ transfer_id → AllByRecursion FitsChunk ws
    → HasNumbered x.session before n → HasNumbered x.session (before ++ map (up_packet x) ws) (n + length ws)
numbered_more_up k x before ws n small service fits said = words_numbered k x small service ClientStream refl x.client_opening.name refl before ws n fits said

-- WHAT WAS LOST STAYS LOST where more was numbered
module _ (k : Setup) (x : Places) (a b : World) (more : List Packet) (grown : b.numbered ≡ a.numbered ++ more) where
  still_there : (place : ℕ) (p : Packet) → slice_get a.numbered place ≡ Some p → slice_get b.numbered place ≡ Some p
  still_there place p there = ap (λ (ps : List Packet). slice_get ps place) grown ∙ get_front a.numbered more place p there

  pub still_lost : (first : World) (l : Lost) → IsLostIn k x first a l → IsLostIn k x first b l
  still_lost first l is = record {
    place = is.place;
    type = is.type;
    message = is.message;
    there = still_there is.place (packet_saying is.type x.client_opening.name x.session l.word) is.there;
    dropped = is.dropped;
    fits = is.fits;
    times = is.times;
    numbered = is.numbered;
    moment = is.moment;
  }

  pub all_still_lost : (first : World) (ls : List Lost) → AllByRecursion (IsLostIn k x first a) ls → AllByRecursion (IsLostIn k x first b) ls
  all_still_lost first ls all = all_weaken (IsLostIn k x first a) (IsLostIn k x first b) ls (still_lost first) all

  pub all_lost_now : (from now : ℕ) (ls : List Lost) → AllByRecursion (IsLostNow k x from now a) ls → AllByRecursion (IsLostNow k x from now b) ls
  all_lost_now from now ls all = all_weaken (IsLostNow k x from now a) (IsLostNow k x from now b) ls lost_now all
    where
      lost_now : (l : Lost) → IsLostNow k x from now a l → IsLostNow k x from now b l
      lost_now l is = record {
        place = is.place;
        type = is.type;
        message = is.message;
        there = still_there is.place (packet_saying is.type x.client_opening.name x.session l.word) is.there;
        dropped = is.dropped;
        fits = is.fits;
        later = is.later;
        moment = is.moment;
      }
