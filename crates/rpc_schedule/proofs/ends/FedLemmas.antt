-- What an end was fed, over bytes more.
use Rattle.std.proofs.Common.{◌≡◌, ℕ, ◌≤◌, length, take, arith, Bool, true, false, if◌then◌else◌, ◌&&◌, List, [], ◌∷◌, ◌++◌, Option, Some, None, is_some, is_none, option_map, Result, Ok, Err, OnErr, refl, ap, sym, ◌∙◌, subst, inl, inr, ◌⊎◌}
use Rattle.std.proofs.lemmas.Bool.{false≢true}
use Rattle.std.proofs.lemmas.List.{append-nil}
use Rattle.std.specs.Option.{option_to_list}
use Rattle.rpc_ids.specs.declared.method.Role.{Role}
use Rattle.rpc_packet.specs.declared.owned.Packet.{Packet}
use Rattle.rpc_handlers.specs.declared.event.Memo.{Memo}
use Rattle.rpc_handlers.specs.HandlerRule.{HandlerRule}
use Rattle.rpc_journal.specs.declared.answers.ArriveRefused.TheVariants.{JournalFull as Full, QueueFull, Memory as NoMemory}
use Rattle.rpc_journal.specs.declared.answers.StartRefused.{StartRefused}
use Rattle.rpc_journal.specs.declared.answers.StartRefused.TheVariants.{JournalFull, Memory}
use Rattle.rpc_journal.specs.declared.entry.Entry.{Entry}
use Rattle.rpc_journal.specs.declared.entry.EntryKind.{EntryKind}
use Rattle.rpc_journal.specs.declared.entry.EntryKind.TheVariants.{Arrive, Start, Finish, Flush, EndIn}
use Rattle.rpc_journal.specs.declared.item.Item.{Item}
use Rattle.rpc_journal.specs.Changes.{Accepts, ArriveDid}
use Rattle.rpc_journal.specs.History.{adding, entry_by}
use Rattle.rpc_journal.specs.Items.{arrival_of, arrivals}
use Rattle.rpc_journal.specs.Lawful.{full_queue}
use Rattle.rpc_journal.specs.Kinds.{or_else}
use Rattle.rpc_journal.specs.Refusals.{arrive_refusal, is_full, refused_where}
use Rattle.rpc_journal.specs.CallTable.{Table, past}
use Rattle.rpc_journal.specs.Ran.{Ran}
use Rattle.rpc_frames.specs.Heard.{heard_packets}
use Rattle.rpc_frames.proofs.Growing.{nothing_heard_in, packets_same}
use Rattle.rpc_frames.specs.Listening.{HearsMore, Listening, StopsAtPacket, StopsAtSegment}
use Rattle.rpc_frames.specs.Listening as listens
use Rattle.rpc_schedule.specs.Schedule.{flush_seat, input_seat, run_seat}
use Rattle.rpc_schedule.specs.Serving.{Begins, Ends, EndsInput, FedBy, Gives, HasHeard, Serving, Works, none_waiting, refusing, with_entry}
use Rattle.rpc_schedule.proofs.EntryLemmas.{arrivals-push}
use Rattle.rpc_schedule.specs.ends.Feeding.{Arrives, TakesIn}
use Rattle.rpc_schedule.specs.ends.EndState.{EndState, WasFed, KeepsAside, heard}
use Rattle.rpc_schedule.specs.ends.EndHolds.{IsEnd, kept_call}
use Rattle.rpc_schedule.proofs.ends.IdleLemmas.{no_full_queue}

-- where no run is kept and no event waits, no queue is full
queue_refusal : (full : Bool) (c : ℕ) → or_else (refused_where full Full) None ≡ Some (QueueFull c) → ⊥
queue_refusal true c is = cc is
queue_refusal false c is = cc is

pub no_queue_full : (role : Role) (rule : HandlerRule) (seed : Memo) (t : Table) (kept : Option Ran) (refused : Option StartRefused) (p : Packet) (c : ℕ) (after : List Entry)
    → IsEnd role rule seed t kept refused → (is_none (kept_call kept) && none_waiting (past t)) ≡ true → ArriveDid t.setting 0 p (Err (QueueFull c)) t.entries after → ⊥
no_queue_full role rule seed t (Some r) refused p c after is idle did = false≢true idle
no_queue_full role rule seed t None refused p c after is idle did = at did.cause
  where
    none : full_queue t.setting (past t) p ≡ None
    none = no_full_queue role rule seed t refused p is idle

    at : (QueueFull c ≡ NoMemory) ⊎ (arrive_refusal t.setting t.entries p ≡ Some (QueueFull c)) → ⊥
    at (inl memory) = cc memory
    at (inr full) =
        queue_refusal (is_full t.entries) c
        (subst (λ q. or_else (refused_where (is_full t.entries) Full) (option_map QueueFull q) ≡ Some (QueueFull c)) none full)

pub on_err : {A E : Type 0} (X : Type 0) (r : Result A E) → X → OnErr r X
on_err X (Ok a) x = tt
on_err X (Err e) x = x

module _ (role : Role) (old : Serving) (l m : Listening) (bytes : List ℕ) where
  -- what is heard in the bytes more
  heard_more : (o : Option Packet) (s : List ℕ) → l.role ≡ role → HearsMore l m bytes o → WasFed role (record { serving = old; listener = l }) s
      → heard role (s ++ bytes) ≡ heard role s ++ option_to_list o
  heard_more o s is_role more fed =
      subst (λ r. heard_packets r (s ++ bytes) ≡ heard_packets r s ++ option_to_list o) is_role (more.heard s fed.listener)

  -- no packet
  fed_none : (s : List ℕ) → l.role ≡ role → HearsMore l m bytes None → WasFed role (record { serving = old; listener = l }) s
      → WasFed role (record { serving = old; listener = m }) (s ++ bytes)
  fed_none s is_role more fed = record {
    listener = more.stands s fed.listener;
    packets = subst (λ ps. HasHeard ps old) (sym (heard_more None s is_role more fed ∙ append-nil (heard role s))) fed.packets;
  }

  -- a packet, which arrived
  fed_one : (new : Serving) (n : Listening) (p : Packet) (s : List ℕ) → l.role ≡ role → HearsMore l m bytes (Some p) → old.refused ≡ None
      → Arrives p old (Ok tt) new → n ≡ m → WasFed role (record { serving = old; listener = l }) s → WasFed role (record { serving = new; listener = n }) (s ++ bytes)
  fed_one new n p s is_role more unrefused takes same fed =
      let one : heard role (s ++ bytes) ≡ arrivals (with_entry old input_seat (Arrive p)).table.entries =
      heard_more (Some p) s is_role more fed ∙ ap (λ ps. ps ++ p ∷ []) (fed.packets.all unrefused) ∙ sym (arrivals-push old.table.entries (entry_by input_seat (Arrive p))) in
      record {
        listener = rw same (more.stands s fed.listener);
        packets =
            subst (HasHeard (heard role (s ++ bytes))) (sym takes.1)
            (record { all = λ none. one; but_one = λ refused. absurd (false≢true (sym (ap is_some unrefused) ∙ refused)) });
      }

  refused_packet : (p : Packet) (why : StartRefused) (s : List ℕ) → l.role ≡ role → HearsMore l m bytes (Some p) → old.refused ≡ None
      → WasFed role (record { serving = old; listener = l }) s → HasHeard (heard role (s ++ bytes)) (refusing old why)
  refused_packet p why s is_role more unrefused fed = record {
    all = λ none. cc none;
    but_one = λ refused. (p, heard_more (Some p) s is_role more fed ∙ ap (λ ps. ps ++ p ∷ []) (fed.packets.all unrefused));
  }

  is_refusing : (p : Packet) (why : StartRefused) (new : Serving) → Arrives p old (Err why) new → new ≡ refusing old why
  is_refusing p JournalFull new takes = takes.1
  is_refusing p Memory new takes = takes

  -- a packet, which was refused
  fed_refused : (new : Serving) (n : Listening) (p : Packet) (why : StartRefused) (s : List ℕ) → l.role ≡ role → HearsMore l m bytes (Some p)
      → old.refused ≡ None → Arrives p old (Err why) new → n ≡ m → WasFed role (record { serving = old; listener = l }) s
      → WasFed role (record { serving = new; listener = n }) (s ++ bytes)
  fed_refused new n p why s is_role more unrefused takes same fed = record {
    listener = rw same (more.stands s fed.listener);
    packets = subst (HasHeard (heard role (s ++ bytes))) (sym (is_refusing p why new takes)) (refused_packet p why s is_role more unrefused fed);
  }

  -- what was heard, if anything, was taken in
  pub fed_more : (new : Serving) (n : Listening) (o : Option Packet) (s : List ℕ) → l.role ≡ role → HearsMore l m bytes o → old.refused ≡ None
      → TakesIn o old (Ok tt) new → n ≡ m → WasFed role (record { serving = old; listener = l }) s → WasFed role (record { serving = new; listener = n }) (s ++ bytes)
  fed_more new n None s is_role more unrefused takes same fed = rw (takes, same) (fed_none s is_role more fed)
  fed_more new n (Some p) s is_role more unrefused takes same fed = fed_one new n p s is_role more unrefused takes same fed

  -- what was heard was refused
  pub fed_less : (new : Serving) (n : Listening) (o : Option Packet) (why : StartRefused) (s : List ℕ) → l.role ≡ role → HearsMore l m bytes o
      → old.refused ≡ None → TakesIn o old (Err why) new → n ≡ m → WasFed role (record { serving = old; listener = l }) s
      → WasFed role (record { serving = new; listener = n }) (s ++ bytes)
  fed_less new n None why s is_role more unrefused takes same fed = absurd takes
  fed_less new n (Some p) why s is_role more unrefused takes same fed = fed_refused new n p why s is_role more unrefused takes same fed

-- an entry that is no arrival
heard_still : (packets : List Packet) (old new : Serving) (seat : ℕ) (kind : EntryKind) (kept : Option ℕ) → arrival_of kind ≡ []
    → new ≡ record (with_entry old seat kind) { kept = kept } → HasHeard packets old → HasHeard packets new
heard_still packets old new seat kind kept none is heard =
    let h = old.table.entries in
    let same : arrivals h ≡ arrivals (adding h seat kind) =
    sym (arrivals-push h (entry_by seat kind) ∙ (ap (λ ps. arrivals h ++ ps) none ∙ append-nil (arrivals h))) in
    subst (HasHeard packets) (sym is)
    (record {
      all = λ accepts. heard.all accepts ∙ same;
      but_one = λ refused. let last = heard.but_one refused in (last.0, last.1 ∙ ap (λ ps. ps ++ last.0 ∷ []) same);
    })

pub began_heard : (packets : List Packet) (old new : Serving) → Begins old new → HasHeard packets old → HasHeard packets new
began_heard packets old new began heard = heard_still packets old new run_seat (Start began.call) (Some began.call) refl began.adds heard

pub ended_heard : (rule : HandlerRule) (packets : List Packet) (old new : Serving) → Ends rule old new → HasHeard packets old → HasHeard packets new
ended_heard rule packets old new ended heard = heard_still packets old new run_seat (Finish ended.call ended.answer) None refl ended.adds heard

-- no packet arrives while it works
pub works_heard : (rule : HandlerRule) (packets : List Packet) (old new : Serving) (result : Result Bool StartRefused) → Works rule old result new
    → HasHeard packets old → HasHeard packets new
works_heard rule packets old new (Ok true) (inl ended) heard = ended_heard rule packets old new ended heard
works_heard rule packets old new (Ok true) (inr run) heard =
    ended_heard rule packets run.0 new run.2 (began_heard packets old run.0 run.1 heard)
works_heard rule packets old new (Ok false) none heard = subst (HasHeard packets) (sym none.same) heard
works_heard rule packets old new (Err JournalFull) full heard = subst (HasHeard packets) (sym full.same) heard
works_heard rule packets old new (Err Memory) (inl same) heard = subst (HasHeard packets) (sym same) heard
works_heard rule packets old new (Err Memory) (inr began) heard = began_heard packets old new began heard

-- nor as an item is flushed
pub gives_heard : (packets : List Packet) (old new : Serving) (result : Option Item) → Gives old result new → HasHeard packets old → HasHeard packets new
gives_heard packets old new (Some item) gives heard = heard_still packets old new flush_seat Flush old.kept refl gives.1 heard
gives_heard packets old new None none heard = subst (HasHeard packets) (sym none.1) heard

-- nor as the input ends
pub ends_heard : (packets : List Packet) (old new : Serving) → EndsInput old new → HasHeard packets old → HasHeard packets new
ends_heard packets old new ends heard = heard_still packets old new input_seat EndIn old.kept refl ends heard

-- a server that was fed nothing
pub fed_nothing : (role : Role) (s : Serving) (l : Listening) → listens.HasHeard l [] → s.table.entries ≡ [] → s.refused ≡ None → WasFed role (record { serving = s; listener = l }) []
fed_nothing role s l none empty accepts = record {
  listener = none;
  packets = record {
    all = λ _. nothing ∙ sym (ap arrivals empty);
    but_one = λ refused. absurd (false≢true (sym (ap is_some accepts) ∙ refused));
  };
}
  where
    nothing : heard role [] ≡ []
    nothing = nothing_heard_in role

-- nothing of a piece was fed
pub fed_no_byte : (role : Role) (s : EndState) (piece : List ℕ) → FedBy (heard role) (WasFed role s) (WasFed role s) piece 0
fed_no_byte role s piece = record {
  within = omega arith;
  fed = λ bytes fed. subst (WasFed role s) (sym (append-nil bytes)) fed;
  none_before = λ bytes fed n below. absurd (omega (arith, below));
}

-- bytes up to the end of a segment were fed, so that no packet is heard before the last of them
pub fed_by : (role : Role) (old new : EndState) (piece : List ℕ) (taken : ℕ) → taken ≤ length piece → StopsAtSegment old.listener piece taken
    → ((bytes : List ℕ) → WasFed role old bytes → WasFed role new (bytes ++ take taken piece)) → FedBy (heard role) (WasFed role old) (WasFed role new) piece taken
fed_by role old new piece taken within stops fed = record {
  within = within;
  fed = fed;
  none_before = λ bytes before n below. packets_same role bytes (bytes ++ take n piece) (stops.none_before bytes before.listener n below);
}

-- bytes up to the end of the first frame with a packet were fed
pub fed_to_packet : (role : Role) (old new : EndState) (piece : List ℕ) (taken : ℕ) (packet : Option Packet) → old.listener.role ≡ role → taken ≤ length piece
    → StopsAtPacket old.listener piece taken packet → ((bytes : List ℕ) → WasFed role old bytes → WasFed role new (bytes ++ take taken piece))
    → FedBy (heard role) (WasFed role old) (WasFed role new) piece taken
fed_to_packet role old new piece taken packet is_role within stops fed = record {
  within = within;
  fed = fed;
  none_before = λ bytes before n below.
      subst (λ r. heard_packets r (bytes ++ take n piece) ≡ heard_packets r bytes) is_role (stops.none_before bytes before.listener n below);
}

-- there was no memory for the packet that was heard
pub fed_lost : (role : Role) (old : Serving) (l m : Listening) (bytes : List ℕ) (packet : Packet) (s : List ℕ) → HearsMore l m bytes (Some packet) → l.role ≡ role → old.refused ≡ None
    → WasFed role (record { serving = old; listener = l }) s → WasFed role (record { serving = refusing old Memory; listener = m }) (s ++ bytes)
fed_lost role old l m bytes packet s more is_role unrefused fed = record {
  listener = more.stands s fed.listener;
  packets = refused_packet role old l m bytes packet Memory s is_role more unrefused fed;
}

-- where nothing else has changed, and what arrived is the same
still_fed : (role : Role) (old new : EndState) → arrivals old.serving.table.entries ≡ arrivals new.serving.table.entries → KeepsAside old new → (bytes : List ℕ) → WasFed role old bytes → WasFed role new bytes
still_fed role old new same aside bytes fed =
    let kept = sym aside.refused in
    record {
      listener = subst (λ l. listens.HasHeard l bytes) (sym aside.listener) fed.listener;
      packets = record {
        all = λ accepts. fed.packets.all (kept ∙ accepts) ∙ same;
        but_one = λ refused. let last = fed.packets.but_one (ap is_some kept ∙ refused) in (last.0, last.1 ∙ ap (λ ps. ps ++ last.0 ∷ []) same);
      };
    }

same_fed : (role : Role) (old new : EndState) → new.serving.table.entries ≡ old.serving.table.entries → KeepsAside old new → (bytes : List ℕ) → WasFed role old bytes → WasFed role new bytes
same_fed role old new same aside bytes fed = still_fed role old new (ap arrivals (sym same)) aside bytes fed

pub added_fed : (role : Role) (old new : EndState) (seat : ℕ) (kind : EntryKind) → new.serving.table.entries ≡ adding old.serving.table.entries seat kind → KeepsAside old new → arrival_of kind ≡ [] → (bytes : List ℕ) → WasFed role old bytes → WasFed role new bytes
added_fed role old new seat kind adds aside none bytes fed =
    let h = old.serving.table.entries in
    let same : arrivals h ≡ arrivals (adding h seat kind) =
    sym (arrivals-push h (entry_by seat kind) ∙ (ap (λ ps. arrivals h ++ ps) none ∙ append-nil (arrivals h))) in
    still_fed role old new (same ∙ ap arrivals (sym adds)) aside bytes fed

-- an entry that is no arrival, of a call that may be refused
pub accepts_fed : {A F E : Type 0} (role : Role) (told_of : F → E) (refusal : Option E) (memory : E) (answers : A → Type 0) (seat : ℕ) (kind : EntryKind) (result : Result A F) (old new : EndState)
    → Accepts told_of refusal memory answers (entry_by seat kind) result old.serving.table.entries new.serving.table.entries → KeepsAside old new → arrival_of kind ≡ [] → (bytes : List ℕ) → WasFed role old bytes → WasFed role new bytes
accepts_fed role told_of refusal memory answers seat kind (Ok done) old new did aside none bytes fed = added_fed role old new seat kind did.adds aside none bytes fed
accepts_fed role told_of refusal memory answers seat kind (Err why) old new did aside none bytes fed = same_fed role old new did.kept aside bytes fed

-- of a call that adds one such entry or none
pub may_add_fed : (role : Role) (b : Bool) (old new : EndState) (seat : ℕ) (kind : EntryKind) → new.serving.table.entries ≡ (if b then old.serving.table.entries else adding old.serving.table.entries seat kind)
    → KeepsAside old new → arrival_of kind ≡ [] → (bytes : List ℕ) → WasFed role old bytes → WasFed role new bytes
may_add_fed role true old new seat kind same aside none bytes fed = same_fed role old new same aside bytes fed
may_add_fed role false old new seat kind adds aside none bytes fed = added_fed role old new seat kind adds aside none bytes fed
