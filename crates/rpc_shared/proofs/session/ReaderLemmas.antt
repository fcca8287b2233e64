-- What the reader has fed.
use Rattle.std.proofs.Common.{◌≡◌, ◌⊎◌, ℕ, ◌+◌, ◌-◌, ◌<◌, ◌≤◌, Bool, true, false, List, [], ◌∷◌, ◌++◌, length, take, drop, Option, Some, None, Result, Ok, Err, OnErr, OnOk, is_err, is_some, refl, ap, sym, ◌∙◌, subst, inl, inr, arith, append_assoc, length-append, length-take}
use Rattle.std.proofs.lemmas.Bool.{false≢true}
use Rattle.std.proofs.lemmas.List.{append-nil, take-append-drop, take_rest}
use Rattle.std.specs.Option.{option_to_list}
use Rattle.std.specs.Io.KnownBytes.{Consumes, IsAtEnd, Keeps}
use Rattle.std.proofs.KnownBytes.{Consumes-kept, Consumes-nil, Consumes-trans}
use mathlib.Core.List.{IsPrefix}
use Rattle.entry_lists.specs.Entries.{made_by}
use Rattle.entry_lists.proofs.Prefixes.{prefix_self}
use Rattle.link_io.specs.declared.reading.Ending.{Ending}
use Rattle.link_io.specs.declared.reading.Ending.TheVariants.{AtEnd, AtLimit, Failed}
use Rattle.link_io.specs.declared.why.Why.{Why}
use Rattle.rpc_handlers.specs.HandlerRule.{HandlerRule}
use Rattle.rpc_ids.specs.declared.method.Role.TheVariants.{Server}
use Rattle.rpc_packet.specs.declared.owned.Packet.{Packet}
use Rattle.rpc_frames.specs.Heard.{heard_packets}
use Rattle.rpc_frames.specs.Listening.{HasHeard, HearsMore, Listening, LosesPacket}
use Rattle.rpc_frames.proofs.Growing.{nothing_heard_in}
use Rattle.rpc_journal.specs.declared.entry.Entry.{Entry}
use Rattle.rpc_journal.specs.declared.entry.EntryKind.{EntryKind}
use Rattle.rpc_journal.specs.declared.entry.EntryKind.TheVariants.{Arrive, Start, Finish, EndIn, Halt}
use Rattle.rpc_journal.specs.declared.setting.Setting.{Setting}
use Rattle.rpc_journal.specs.Conditions.{IsInputOpen}
use Rattle.rpc_journal.specs.History.{entry_by, history}
use Rattle.rpc_journal.specs.Items.{arrival_of, arrivals, ends_input, halt_reason, is_end_in}
use Rattle.rpc_journal.specs.Lawful.{IsLawful}
use Rattle.rpc_journal.specs.Laws.{seat_of}
use Rattle.rpc_journal.proofs.StayLemmas.{end_in_of_seat, halt_stays}
use Rattle.rpc_schedule.specs.declared.stream.TheConstants.{INPUT_LIMIT}
use Rattle.rpc_schedule.proofs.EntryLemmas.{arrivals-push}
use Rattle.rpc_frames.proofs.Pieces.{piece_parts}
use Rattle.rpc_shared.specs.session.Crew.{Adds, AreOf, Cut, Fed, HasRead, Lock, Reader, ReaderEnded, Seat, is_feeding, is_readers, is_workers}
use Rattle.rpc_shared.specs.session.Sessions.{is_halted}
use Rattle.rpc_shared.proofs.session.PassLemmas.{adds_weaker, kinds_after, of_weaker, stands_after, workers_feed}

-- ---- the reader's pass

pub reader_on : (rule : HandlerRule) (r : Lock) (p q : Seat) → Reader rule r p → Adds rule r is_feeding p q → Reader rule r q
reader_on rule r p q reader adds = record {
  stands = stands_after rule r is_feeding p q reader.stands adds;
  number = adds.same.number ∙ reader.number;
  kinds = kinds_after rule r is_feeding p q reader.kinds adds;
}

pub worked_feeding : (rule : HandlerRule) (r : Lock) (p q : Seat) → Adds rule r is_workers p q → Adds rule r is_feeding p q
worked_feeding rule r p q adds = adds_weaker rule r is_workers is_feeding p q workers_feed adds

feeding_reads : (kind : EntryKind) → is_feeding kind ≡ true → is_readers kind ≡ true
feeding_reads (Arrive p) is = refl
feeding_reads (Start c) is = refl
feeding_reads (Finish c a) is = refl
feeding_reads (Halt why) is = is
feeding_reads _ is = absurd cc

pub reader_ended : (rule : HandlerRule) (r : Lock) (p q : Seat) → Reader rule r p → Adds rule r is_readers p q → ReaderEnded rule r q
reader_ended rule r p q reader adds = record {
  stands = stands_after rule r is_readers p q reader.stands adds;
  number = adds.same.number ∙ reader.number;
  kinds = kinds_after rule r is_readers p q (of_weaker is_feeding is_readers feeding_reads p.view.known.mine reader.kinds) adds;
}

-- ---- the input is open

kind_opens : (kind : EntryKind) → is_feeding kind ≡ true → is_end_in kind ≡ false
kind_opens EndIn is = absurd cc
kind_opens _ is = refl

no_end : (h : List Entry) → AreOf is_feeding h → ends_input h ≡ false
no_end [] all = refl
no_end (e ∷ h) all = rw (kind_opens e.kind all.0) (no_end h all.1)

pub input_open : (rule : HandlerRule) (r : Lock) (p : Seat) → Reader rule r p → IsInputOpen r.base p.view.known.seen p.view.known.number
input_open rule r p reader = record {
  feeder = reader.number;
  not_ended =
      end_in_of_seat r.base p.view.known.seen reader.stands.legal.lawful
      ∙ (ap ends_input (subst (λ n. made_by seat_of n p.view.known.seen ≡ p.view.known.mine) reader.number reader.stands.shown) ∙ no_end p.view.known.mine reader.kinds);
}

-- ---- arrivals

arrivals-append : (xs ys : List Entry) → arrivals (xs ++ ys) ≡ arrivals xs ++ arrivals ys
arrivals-append [] ys = refl
arrivals-append (e ∷ xs) ys = ap (λ ps. arrival_of e.kind ++ ps) (arrivals-append xs ys) ∙ sym (append_assoc (arrival_of e.kind) (arrivals xs) (arrivals ys))

none_arrives : (test : EntryKind → Bool) → ((kind : EntryKind) → test kind ≡ true → arrival_of kind ≡ []) → (h : List Entry) → AreOf test h → arrivals h ≡ []
none_arrives test none [] all = refl
none_arrives test none (e ∷ h) all = rw (none e.kind all.0) (none_arrives test none h all.1)

-- what adds no arrival leaves the arrivals
same_arrivals : (rule : HandlerRule) (r : Lock) (test : EntryKind → Bool) (p q : Seat) → ((kind : EntryKind) → test kind ≡ true → arrival_of kind ≡ [])
    → Adds rule r test p q → arrivals q.view.known.mine ≡ arrivals p.view.known.mine
same_arrivals rule r test p q none adds =
    ap arrivals adds.mine
    ∙ (arrivals-append p.view.known.mine adds.added
    ∙ (ap (λ ps. arrivals p.view.known.mine ++ ps) (none_arrives test none adds.added adds.kinds) ∙ append-nil (arrivals p.view.known.mine)))

work_arrives_none : (kind : EntryKind) → is_workers kind ≡ true → arrival_of kind ≡ []
work_arrives_none (Arrive p) is = absurd cc
work_arrives_none _ is = refl

pub worked_arrivals : (rule : HandlerRule) (r : Lock) (p q : Seat) → Adds rule r is_workers p q → arrivals q.view.known.mine ≡ arrivals p.view.known.mine
worked_arrivals rule r p q adds = same_arrivals rule r is_workers p q work_arrives_none adds

pub arrived_more : (p q : Seat) (packet : Packet) (seat : ℕ) → q.view.known.mine ≡ p.view.known.mine ++ entry_by seat (Arrive packet) ∷ []
    → arrivals q.view.known.mine ≡ arrivals p.view.known.mine ++ packet ∷ []
arrived_more p q packet seat is = ap arrivals is ∙ arrivals-push p.view.known.mine (entry_by seat (Arrive packet))

-- ---- what was fed

pub fed_nothing : (l : Listening) (p : Seat) → l.role ≡ Server → HasHeard l [] → p.view.known.mine ≡ [] → Fed l p []
fed_nothing l p role heard none = record {
  role = role;
  listener = heard;
  arrived = ap arrivals none ∙ sym (nothing_heard_in Server);
}

pub cut_fed : (l : Listening) (p : Seat) (bytes : List ℕ) → Fed l p bytes → Cut l p bytes
cut_fed l p bytes fed = record {
  fed = bytes;
  within = prefix_self bytes;
  role = fed.role;
  listener = fed.listener;
  arrived = subst (λ ps. IsPrefix ps (heard_packets Server bytes)) (sym fed.arrived) (prefix_self (heard_packets Server bytes));
}

module _ (l m : Listening) (p q : Seat) (bytes part : List ℕ) (heard : Option Packet) where
  heard_more : Fed l p bytes → HearsMore l m part heard → heard_packets Server (bytes ++ part) ≡ heard_packets Server bytes ++ option_to_list heard
  heard_more fed more = subst (λ role. heard_packets role (bytes ++ part) ≡ heard_packets role bytes ++ option_to_list heard) fed.role (more.heard bytes fed.listener)

  -- what was heard arrived
  pub fed_part : Fed l p bytes → HearsMore l m part heard → arrivals q.view.known.mine ≡ arrivals p.view.known.mine ++ option_to_list heard → Fed m q (bytes ++ part)
  fed_part fed more arrived = record {
    role = more.role ∙ fed.role;
    listener = more.stands bytes fed.listener;
    arrived = arrived ∙ (ap (λ ps. ps ++ option_to_list heard) fed.arrived ∙ sym (heard_more fed more));
  }

  -- it was refused, or lost
  pub cut_part : (piece : List ℕ) → IsPrefix part piece → Fed l p bytes → HearsMore l m part heard → arrivals q.view.known.mine ≡ arrivals p.view.known.mine → Cut m q (bytes ++ piece)
  cut_part piece begins fed more same = record {
    fed = bytes ++ part;
    within = (begins.0, append_assoc bytes part begins.0 ∙ ap (λ bs. bytes ++ bs) begins.1);
    role = more.role ∙ fed.role;
    listener = more.stands bytes fed.listener;
    arrived = (option_to_list heard, ap (λ ps. ps ++ option_to_list heard) (same ∙ fed.arrived) ∙ sym (heard_more fed more));
  }

pub take_begins : (n : ℕ) (piece : List ℕ) → IsPrefix (take n piece) piece
take_begins n piece = (drop n piece, take-append-drop n piece)

-- there was no memory for the packet
pub cut_lost : (l m : Listening) (p q : Seat) (bytes piece : List ℕ) → (lost : LosesPacket l m piece) → Fed l p bytes → arrivals q.view.known.mine ≡ arrivals p.view.known.mine → Cut m q (bytes ++ piece)
cut_lost l m p q bytes piece lost fed same =
    cut_part l m p q bytes (take lost.taken piece) (Some lost.packet) piece (take_begins lost.taken piece) fed lost.more same

-- ---- in pieces

-- a frame more of a piece
pub fed_on : (l m : Listening) (p q : Seat) (bytes piece : List ℕ) (done count : ℕ)
    → Fed m q ((bytes ++ take done piece) ++ take count (take (length piece - done) (drop done piece))) → Fed m q (bytes ++ take (done + count) piece)
fed_on l m p q bytes piece done count fed = subst (Fed m q) (piece_parts bytes piece done count) fed

-- the rest of a piece
pub cut_rest : (m : Listening) (q : Seat) (bytes piece : List ℕ) (done : ℕ)
    → Cut m q ((bytes ++ take done piece) ++ take (length piece - done) (drop done piece)) → Cut m q (bytes ++ piece)
cut_rest m q bytes piece done cut =
    let parts : (bytes ++ take done piece) ++ take (length piece - done) (drop done piece) ≡ bytes ++ piece =
    ap (λ rest. (bytes ++ take done piece) ++ rest) (take_rest piece done)
    ∙ (append_assoc bytes (take done piece) (drop done piece) ∙ ap (λ bs. bytes ++ bs) (take-append-drop done piece)) in
    subst (Cut m q) parts cut

-- ---- a stream so far

-- a reading that ended by the end of the source or a fault didn't end at its limit
no_limit : (ending : Ending) → (Some ending ≡ Some AtEnd) ⊎ (Some ending ≡ Some Failed) → ending ≡ AtLimit → ⊥
no_limit AtEnd is limit = cc limit
no_limit Failed is limit = cc limit
no_limit AtLimit (inl is) limit = cc is
no_limit AtLimit (inr is) limit = cc is

none_ended : (ending : Option Ending) → ending ≡ None → (ending ≡ Some AtEnd) ⊎ (ending ≡ Some Failed) → ⊥
none_ended None none (inl is) = cc is
none_ended None none (inr is) = cc is
none_ended (Some ending) none is = cc none

-- all bytes that were taken from a source were fed
pub record HasFed (left_old left : Option (List ℕ)) (total : ℕ) (l : Listening) (p : Seat) : Type 0 where
  pub bytes : List ℕ
  pub taken : Consumes left_old left bytes
  pub count : length bytes ≡ total
  pub within : total ≤ INPUT_LIMIT
  pub fed : Fed l p bytes

pub has_fed_none : (left : Option (List ℕ)) (l : Listening) (p : Seat) → Fed l p [] → HasFed left left 0 l p
has_fed_none left l p fed = record { bytes = []; taken = Consumes-nil left; count = refl; within = omega arith; fed = fed }

module _ (left_old left_mid left_new : Option (List ℕ)) (total room count : ℕ) (buf : List ℕ) (l m : Listening) (p q : Seat) where
  all_taken : (so : HasFed left_old left_mid total l p) → Consumes left_mid left_new (take count buf) → count ≤ length buf
      → Consumes left_old left_new (so.bytes ++ take count buf) × (length (so.bytes ++ take count buf) ≡ total + count)
  all_taken so next long = (
    Consumes-trans left_old left_mid left_new so.bytes (take count buf) so.taken next,
    omega (arith, so.count, length-append so.bytes (take count buf), length-take count buf),
  )

  -- one piece more was taken and fed
  pub has_fed_more : (so : HasFed left_old left_mid total l p) → Consumes left_mid left_new (take count buf) → count ≤ length buf → length buf ≤ room → total + room ≤ INPUT_LIMIT
      → ((bytes : List ℕ) → Fed l p bytes → Fed m q (bytes ++ take count buf)) → HasFed left_old left_new (total + count) m q
  has_fed_more so next long short within feeds =
      let all = all_taken so next long in
      record { bytes = so.bytes ++ take count buf; taken = all.0; count = all.1; within = omega (arith, long, short, within); fed = feeds so.bytes so.fed }

  -- or a halt of the table cut it short
  pub has_read_cut : (set : Setting) → (so : HasFed left_old left_mid total l p) → Consumes left_mid left_new (take count buf) → count ≤ length buf → length buf ≤ room → total + room ≤ INPUT_LIMIT
      → ((bytes : List ℕ) → Fed l p bytes → Cut m q (bytes ++ take count buf)) → is_halted set q.view.known.seen ≡ true → HasRead set left_old left_new None (total + count) m q
  has_read_cut set so next long short within cuts halted =
      let all = all_taken so next long in
      record {
        bytes = so.bytes ++ take count buf;
        taken = all.0;
        count = all.1;
        within = omega (arith, long, short, within);
        at_end = λ is. absurd (cc is);
        at_limit = λ is. absurd (cc is);
        below = λ is. absurd (none_ended None refl is);
        cut = cuts so.bytes so.fed;
        cause = inr halted;
        stopped = λ _. halted;
      }

-- the reading ended, and all was fed
pub has_read_all : (set : Setting) (left_old left_mid left_new : Option (List ℕ)) (ending : Ending) (total : ℕ) (l : Listening) (p : Seat)
    → HasFed left_old left_mid total l p → Consumes left_mid left_new [] → (ending ≡ AtEnd → IsAtEnd left_new) → (ending ≡ AtLimit → total ≡ INPUT_LIMIT)
    → ((ending ≡ AtLimit → ⊥) → total < INPUT_LIMIT) → HasRead set left_old left_new (Some ending) total l p
has_read_all set left_old left_mid left_new ending total l p so same at_end at_limit below = record {
  bytes = so.bytes;
  taken = subst (Consumes left_old left_new) (append-nil so.bytes) (Consumes-trans left_old left_mid left_new so.bytes [] so.taken same);
  count = so.count;
  within = so.within;
  at_end = λ is. at_end (cc is);
  at_limit = λ is. at_limit (cc is);
  below = λ is. below (no_limit ending is);
  cut = cut_fed l p so.bytes so.fed;
  cause = inl so.fed;
  stopped = λ is. absurd (cc is);
}

pub consumes_kept : (left_mid left_new : Option (List ℕ)) → Keeps left_mid left_new → Consumes left_mid left_new []
consumes_kept left_mid left_new kept = Consumes-kept left_mid left_mid left_new [] (Consumes-nil left_mid) kept

-- ---- a halt stays, and so does what was read

pub halted_on : (rule : HandlerRule) (r : Lock) (test : EntryKind → Bool) (p q : Seat) → Adds rule r test p q → is_halted r.base p.view.known.seen ≡ true → is_halted r.base q.view.known.seen ≡ true
halted_on rule r test p q adds halted = at (halt_reason (history r.base p.view.known.seen)) refl halted
  where
    rest : List Entry
    rest = adds.begins.0

    later : (why : Why) → halt_reason (history r.base p.view.known.seen) ≡ Some why → halt_reason (history r.base q.view.known.seen) ≡ Some why
    later why is =
        subst (λ h. halt_reason (history r.base h) ≡ Some why) adds.begins.1
        (halt_stays r.base p.view.known.seen rest why (subst (IsLawful r.base) (sym adds.begins.1) adds.legal.lawful) is)

    at : (o : Option Why) → halt_reason (history r.base p.view.known.seen) ≡ o → is_some o ≡ true → is_halted r.base q.view.known.seen ≡ true
    at None is none = absurd (false≢true none)
    at (Some why) is none = ap is_some (later why is)

pub read_on : (rule : HandlerRule) (r : Lock) (test : EntryKind → Bool) (left_old left_new : Option (List ℕ)) (ending : Option Ending) (read : ℕ) (l : Listening) (p q : Seat)
    → Adds rule r test p q → arrivals q.view.known.mine ≡ arrivals p.view.known.mine → HasRead r.base left_old left_new ending read l p → HasRead r.base left_old left_new ending read l q
read_on rule r test left_old left_new ending read l p q adds same has = record {
  bytes = has.bytes;
  taken = has.taken;
  count = has.count;
  within = has.within;
  at_end = has.at_end;
  at_limit = has.at_limit;
  below = has.below;
  cut = record {
    fed = has.cut.fed;
    within = has.cut.within;
    role = has.cut.role;
    listener = has.cut.listener;
    arrived = subst (λ ps. IsPrefix ps (heard_packets Server has.cut.fed)) (sym same) has.cut.arrived;
  };
  cause = at has.cause;
  stopped = λ is. halted_on rule r test p q adds (has.stopped is);
}
  where
    at : Fed l p has.bytes ⊎ (is_halted r.base p.view.known.seen ≡ true) → Fed l q has.bytes ⊎ (is_halted r.base q.view.known.seen ≡ true)
    at (inl fed) = inl (record { role = fed.role; listener = fed.listener; arrived = same ∙ fed.arrived })
    at (inr halted) = inr (halted_on rule r test p q adds halted)

-- an EndIn is no arrival
pub ended_arrivals : (p q : Seat) (seat : ℕ) → q.view.known.mine ≡ p.view.known.mine ++ entry_by seat EndIn ∷ [] → arrivals q.view.known.mine ≡ arrivals p.view.known.mine
ended_arrivals p q seat is = ap arrivals is ∙ (arrivals-push p.view.known.mine (entry_by seat EndIn) ∙ append-nil (arrivals p.view.known.mine))

-- a clause of a refusal that is handed on
pub on_err_of : {A E : Type 0} (X : Type 0) (result : Result A E) → X → OnErr result X
on_err_of X (Ok a) x = tt
on_err_of X (Err e) x = x

pub on_err_map : {A E X Y : Type 0} (result : Result A E) → (X → Y) → OnErr result X → OnErr result Y
on_err_map (Ok a) f x = tt
on_err_map (Err e) f x = f x

-- a Halt is no arrival
pub halted_arrivals : (mine more : List Entry) (k : ℕ) (why : Why) → (more ≡ mine) ⊎ (more ≡ mine ++ entry_by k (Halt why) ∷ []) → arrivals more ≡ arrivals mine
halted_arrivals mine more k why (inl same) = ap arrivals same
halted_arrivals mine more k why (inr is) = ap arrivals is ∙ (arrivals-push mine (entry_by k (Halt why)) ∙ append-nil (arrivals mine))

pub of_ok : {A E X : Type 0} (result : Result A E) → is_err result ≡ false → OnOk result X → X
of_ok (Ok a) is x = x
of_ok (Err e) is x = absurd (cc is)

pub of_err : {A E X : Type 0} (result : Result A E) → is_err result ≡ true → OnErr result X → X
of_err (Ok a) is x = absurd (cc is)
of_err (Err e) is x = x

-- nothing was read, since the table was halted first
pub read_none : (set : Setting) (left : Option (List ℕ)) (l : Listening) (p q : Seat) → Fed l p [] → arrivals q.view.known.mine ≡ arrivals p.view.known.mine → is_halted set q.view.known.seen ≡ true
    → HasRead set left left None 0 l q
read_none set left l p q fed same halted = record {
  bytes = [];
  taken = Consumes-nil left;
  count = refl;
  within = omega arith;
  at_end = λ is. absurd (cc is);
  at_limit = λ is. absurd (cc is);
  below = λ is. absurd (none_ended None refl is);
  cut = cut_fed l q [] (record { role = fed.role; listener = fed.listener; arrived = same ∙ fed.arrived });
  cause = inr halted;
  stopped = λ _. halted;
}

-- the three ways in which reading ends
module _ (set : Setting) (left_old left_mid left_new : Option (List ℕ)) (total : ℕ) (l : Listening) (p : Seat) (so : HasFed left_old left_mid total l p) where
  pub read_failed : total < INPUT_LIMIT → Keeps left_mid left_new → HasRead set left_old left_new (Some Failed) total l p
  read_failed short kept = has_read_all set left_old left_mid left_new Failed total l p so (consumes_kept left_mid left_new kept) (λ is. absurd (cc is)) (λ is. absurd (cc is)) (λ _. short)

  pub read_ended : total < INPUT_LIMIT → Consumes left_mid left_new [] → IsAtEnd left_new → HasRead set left_old left_new (Some AtEnd) total l p
  read_ended short none end = has_read_all set left_old left_mid left_new AtEnd total l p so none (λ _. end) (λ is. absurd (cc is)) (λ _. short)

pub read_limit : (set : Setting) (left_old left : Option (List ℕ)) (total : ℕ) (l : Listening) (p : Seat) → HasFed left_old left total l p → INPUT_LIMIT ≤ total
    → HasRead set left_old left (Some AtLimit) total l p
read_limit set left_old left total l p so full =
    has_read_all set left_old left left AtLimit total l p so (Consumes-nil left) (λ is. absurd (cc is)) (λ _. omega (arith, so.within, full))
    (λ other. absurd (other refl))
