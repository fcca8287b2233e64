-- What each call of the table adds.
use Rattle.std.proofs.Common.{◌≡◌, ◌⊎◌, ℕ, ◌≤◌, Bool, true, false, if◌then◌else◌, List, [], ◌∷◌, ◌++◌, length, Option, Some, None, is_some, option_map, Result, Ok, Err, refl, ap, sym, ◌∙◌, subst, inl, inr, arith}
use Rattle.std.proofs.lemmas.Bool.{leb-true, true≢false}
use Rattle.std.proofs.lemmas.List.{append-nil}
use Rattle.entry_lists.proofs.Prefixes.{prefix_length}
use Rattle.link_io.specs.declared.why.Why.{Why}
use Rattle.link_io.specs.declared.why.Why.TheVariants.{JournalLimit}
use Rattle.rpc_handlers.specs.declared.event.Memo.{Memo}
use Rattle.rpc_handlers.specs.HandlerRule.{HandlerRule}
use Rattle.rpc_packet.specs.declared.owned.Packet.{Packet}
use Rattle.rpc_journal.specs.Ran.{Ran, run_in}
use Rattle.rpc_journal.specs.declared.answers.Arrived.{Arrived}
use Rattle.rpc_journal.specs.declared.answers.ArriveRefused as arrive
use Rattle.rpc_journal.specs.declared.answers.StartRefused as start
use Rattle.rpc_journal.specs.declared.answers.StartOfRefused as start_of
use Rattle.rpc_journal.specs.declared.entry.Entry.{Entry}
use Rattle.rpc_journal.specs.declared.entry.EntryKind.{EntryKind}
use Rattle.rpc_journal.specs.declared.entry.EntryKind.TheVariants.{Arrive, Start, Finish, Tick, Flush, EndIn, Halt}
use Rattle.rpc_journal.specs.declared.entry.TheConstants.{MAX_ENTRIES}
use Rattle.rpc_journal.specs.declared.item.Item.{Item}
use Rattle.rpc_journal.specs.Changes.{ArriveDid, EndInDid, FinishDid, FlushDid, HaltDid, StartDid, StartOfDid, TickDid}
use Rattle.rpc_journal.specs.Choice.{SomeReady}
use Rattle.rpc_journal.specs.Conditions.{CanHalt}
use Rattle.rpc_journal.specs.History.{adding, entry_by, history}
use Rattle.rpc_journal.specs.Items.{halt_reason}
use Rattle.rpc_journal.specs.Quiet.{is_settled}
use Rattle.rpc_journal.specs.Kinds.{or_else}
use Rattle.rpc_journal.specs.Refusals.{is_full, refused_where, start_of_refusal, arrive_refusal, tick_refusal}
use Rattle.rpc_journal.proofs.Push.{history-push}
use Rattle.rpc_shared.specs.declared.look.Look.{Look}
use Rattle.rpc_shared.specs.Looks.{LookDid}
use Rattle.rpc_shared.specs.Steps.{Steps}
use Rattle.rpc_shared.specs.session.Crew.{Adds, Lock, Seat, is_feeding, is_pumps, is_readers, is_workers}
use Rattle.rpc_shared.specs.session.Sessions.{is_halted, is_halting}
use Rattle.rpc_shared.proofs.session.PassLemmas.{adds_none, adds_one}

-- a full journal has as many entries as it may have
pub full_length : (h : List Entry) → is_full h ≡ true → MAX_ENTRIES ≤ length h
full_length h full = leb-true MAX_ENTRIES (length h) full

-- a session's reasons for a halt are ones that the table takes
pub can_halt : (why : Why) → is_halting why ≡ true → CanHalt why
can_halt why is same = true≢false (sym is ∙ ap is_halting same)

same_why : (a b : Why) → Halt a ≡ Halt b → a ≡ b
same_why a b is = cc is

module _ (rule : HandlerRule) (r : Lock) (p q : Seat) where
  -- halt
  module _ (why : Why) (s : Steps rule r p q (λ set seat. HaltDid set seat why)) where
    abbrev was_halted : Bool
    was_halted = is_some (halt_reason (history r.base s.before))

    halt_seen : (b : Bool) → was_halted ≡ b → q.view.known.seen ≡ (if b then s.before else adding s.before p.view.known.number (Halt why))
    halt_seen b is = subst (λ x. q.view.known.seen ≡ (if x then s.before else adding s.before p.view.known.number (Halt why))) is s.did.adds

    pub halt_adds : (why ≡ JournalLimit → MAX_ENTRIES ≤ length p.view.known.seen) → (test : EntryKind → Bool) → test (Halt why) ≡ true → Adds rule r test p q
    halt_adds full test may = at was_halted refl
      where
        at : (b : Bool) → was_halted ≡ b → Adds rule r test p q
        at true is = adds_none rule r p q (λ set seat. HaltDid set seat why) test s (halt_seen true is)
        at false is =
            adds_one rule r p q (λ set seat. HaltDid set seat why) test (Halt why) s (halt_seen false is) may
            (λ same. omega (arith, full (same_why why JournalLimit same), prefix_length p.view.known.seen s.before s.begins))

    pub halt_mine : (q.view.known.mine ≡ p.view.known.mine) ⊎ (q.view.known.mine ≡ p.view.known.mine ++ entry_by p.view.known.number (Halt why) ∷ [])
    halt_mine = at was_halted refl
      where
        at : (b : Bool) → was_halted ≡ b → (q.view.known.mine ≡ p.view.known.mine) ⊎ (q.view.known.mine ≡ p.view.known.mine ++ entry_by p.view.known.number (Halt why) ∷ [])
        at true is = inl (s.mine [] (halt_seen true is ∙ sym (append-nil s.before)) ∙ append-nil p.view.known.mine)
        at false is = inr (s.mine (entry_by p.view.known.number (Halt why) ∷ []) (halt_seen false is))

    pub halt_halted : is_halted r.base q.view.known.seen ≡ true
    halt_halted = at was_halted refl
      where
        at : (b : Bool) → was_halted ≡ b → is_halted r.base q.view.known.seen ≡ true
        at true is = ap (is_halted r.base) (halt_seen true is) ∙ is
        at false is =
            ap (is_halted r.base) (halt_seen false is)
            ∙ ap (λ ds. is_some (halt_reason ds)) (history-push r.base s.before (entry_by p.view.known.number (Halt why)))

  -- start
  pub start_adds : (result : Result (Option Ran) start.StartRefused) → Steps rule r p q (λ set seat. StartDid rule run_in set seat result) → Adds rule r is_workers p q
  start_adds (Ok (Some x)) s =
      adds_one rule r p q (λ set seat. StartDid rule run_in set seat (Ok (Some x))) is_workers (Start x.run.call) s s.did.begins.adds refl (λ is. absurd (cc is))
  start_adds (Ok None) s = adds_none rule r p q (λ set seat. StartDid rule run_in set seat (Ok None)) is_workers s s.did.idle
  start_adds (Err e) s = adds_none rule r p q (λ set seat. StartDid rule run_in set seat (Err e)) is_workers s s.did.kept

  pub start_full : (result : Result (Option Ran) start.StartRefused) → Steps rule r p q (λ set seat. StartDid rule run_in set seat result)
      → result ≡ Err start.TheVariants.JournalFull → MAX_ENTRIES ≤ length q.view.known.seen
  start_full (Ok o) s is = absurd (cc is)
  start_full (Err start.TheVariants.Memory) s is = absurd (cc is)
  start_full (Err start.TheVariants.JournalFull) s is = at s.did.cause
    where
      at : (start.TheVariants.JournalFull ≡ start.TheVariants.Memory) ⊎ ((start.TheVariants.JournalFull ≡ start.TheVariants.JournalFull) × (is_full s.before ≡ true) × SomeReady (history r.base s.before)) → MAX_ENTRIES ≤ length q.view.known.seen
      at (inl memory) = absurd (cc memory)
      at (inr full) = subst (λ h. MAX_ENTRIES ≤ length h) (sym s.did.kept) (full_length s.before full.1)

  -- start_of
  module _ (c : ℕ) where
    pub start_of_adds : (result : Result Ran start_of.StartOfRefused) → Steps rule r p q (λ set seat. StartOfDid rule run_in set seat c result) → Adds rule r is_workers p q
    start_of_adds (Ok x) s =
        adds_one rule r p q (λ set seat. StartOfDid rule run_in set seat c (Ok x)) is_workers (Start x.run.call) s s.did.begins.adds refl (λ is. absurd (cc is))
    start_of_adds (Err e) s = adds_none rule r p q (λ set seat. StartOfDid rule run_in set seat c (Err e)) is_workers s s.did.kept

    unready : (b full : Bool) → or_else (refused_where full start_of.TheVariants.JournalFull) (refused_where b start_of.TheVariants.NotReady) ≡ Some start_of.TheVariants.JournalFull → full ≡ true
    unready b true is = refl
    unready true false is = absurd (cc is)
    unready false false is = absurd (cc is)

    pub start_of_full : (result : Result Ran start_of.StartOfRefused) → Steps rule r p q (λ set seat. StartOfDid rule run_in set seat c result)
        → result ≡ Err start_of.TheVariants.JournalFull → MAX_ENTRIES ≤ length q.view.known.seen
    start_of_full (Ok o) s is = absurd (cc is)
    start_of_full (Err start_of.TheVariants.Memory) s is = absurd (cc is)
    start_of_full (Err start_of.TheVariants.NotReady) s is = absurd (cc is)
    start_of_full (Err start_of.TheVariants.JournalFull) s is = at s.did.cause
      where
        at : (start_of.TheVariants.JournalFull ≡ start_of.TheVariants.Memory) ⊎ (start_of_refusal r.base s.before c ≡ Some start_of.TheVariants.JournalFull) → MAX_ENTRIES ≤ length q.view.known.seen
        at (inl memory) = absurd (cc memory)
        at (inr refused) = subst (λ h. MAX_ENTRIES ≤ length h) (sym s.did.kept) (full_length s.before (unready _ _ refused))

  -- finish
  pub finish_adds : {H : Type 0} (x : Ran) (now : H → Memo) (result : Option H) → x.run.seat ≡ p.view.known.number
      → (h : H) × (now h ≡ x.moves) × Steps rule r p q (λ set _. FinishDid set x.run x.gives h result) → Adds rule r is_workers p q
  finish_adds x now result seat did =
      let s = did.2 in
      adds_one rule r p q (λ set _. FinishDid set x.run x.gives did.0 result) is_workers (Finish x.run.call x.gives) s
      (s.did.adds ∙ ap (λ n. adding s.before n (Finish x.run.call x.gives)) seat) refl (λ is. absurd (cc is))

  -- arrive
  module _ (packet : Packet) where
    pub arrive_adds : (result : Result Arrived arrive.ArriveRefused) → Steps rule r p q (λ set seat. ArriveDid set seat packet result) → Adds rule r is_feeding p q
    arrive_adds (Ok a) s = adds_one rule r p q (λ set seat. ArriveDid set seat packet (Ok a)) is_feeding (Arrive packet) s s.did.adds refl (λ is. absurd (cc is))
    arrive_adds (Err e) s = adds_none rule r p q (λ set seat. ArriveDid set seat packet (Err e)) is_feeding s s.did.kept

    pub arrive_mine : (result : Result Arrived arrive.ArriveRefused) (a : Arrived) → Steps rule r p q (λ set seat. ArriveDid set seat packet result)
        → result ≡ Ok a → q.view.known.mine ≡ p.view.known.mine ++ entry_by p.view.known.number (Arrive packet) ∷ []
    arrive_mine (Ok x) a s is = s.mine (entry_by p.view.known.number (Arrive packet) ∷ []) s.did.adds
    arrive_mine (Err e) a s is = absurd (cc is)

    pub refused_mine : (result : Result Arrived arrive.ArriveRefused) (e : arrive.ArriveRefused) → Steps rule r p q (λ set seat. ArriveDid set seat packet result)
        → result ≡ Err e → q.view.known.mine ≡ p.view.known.mine
    refused_mine (Ok x) e s is = absurd (cc is)
    refused_mine (Err x) e s is = s.mine [] (s.did.kept ∙ sym (append-nil s.before)) ∙ append-nil p.view.known.mine

    queue_full : (o : Option ℕ) (full : Bool) → or_else (refused_where full arrive.TheVariants.JournalFull) (option_map arrive.TheVariants.QueueFull o) ≡ Some arrive.TheVariants.JournalFull → full ≡ true
    queue_full o true is = refl
    queue_full None false is = absurd (cc is)
    queue_full (Some c) false is = absurd (cc is)

    pub arrive_full : (result : Result Arrived arrive.ArriveRefused) → Steps rule r p q (λ set seat. ArriveDid set seat packet result)
        → result ≡ Err arrive.TheVariants.JournalFull → MAX_ENTRIES ≤ length q.view.known.seen
    arrive_full (Ok o) s is = absurd (cc is)
    arrive_full (Err arrive.TheVariants.Memory) s is = absurd (cc is)
    arrive_full (Err (arrive.TheVariants.QueueFull c)) s is = absurd (cc is)
    arrive_full (Err arrive.TheVariants.JournalFull) s is = at s.did.cause
      where
        at : (arrive.TheVariants.JournalFull ≡ arrive.TheVariants.Memory) ⊎ (arrive_refusal r.base s.before packet ≡ Some arrive.TheVariants.JournalFull) → MAX_ENTRIES ≤ length q.view.known.seen
        at (inl memory) = absurd (cc memory)
        at (inr refused) = subst (λ h. MAX_ENTRIES ≤ length h) (sym s.did.kept) (full_length s.before (queue_full _ _ refused))

  -- end_in
  pub end_in_adds : Steps rule r p q (λ set seat. EndInDid seat) → Adds rule r is_readers p q
  end_in_adds s = adds_one rule r p q (λ set seat. EndInDid seat) is_readers EndIn s s.did.adds refl (λ is. absurd (cc is))

  -- tick
  module _ (now : ℕ) where
    pub tick_adds : (result : Result (Unit {0}) start.StartRefused) → Steps rule r p q (λ set seat. TickDid seat now result) → Adds rule r is_pumps p q
    tick_adds (Ok a) s = adds_one rule r p q (λ set seat. TickDid seat now (Ok a)) is_pumps (Tick now) s s.did.adds refl (λ is. absurd (cc is))
    tick_adds (Err e) s = adds_none rule r p q (λ set seat. TickDid seat now (Err e)) is_pumps s s.did.kept

    pub tick_mine : (result : Result (Unit {0}) start.StartRefused) → Steps rule r p q (λ set seat. TickDid seat now result)
        → result ≡ Ok tt → q.view.known.mine ≡ p.view.known.mine ++ entry_by p.view.known.number (Tick now) ∷ []
    tick_mine (Ok x) s is = s.mine (entry_by p.view.known.number (Tick now) ∷ []) s.did.adds
    tick_mine (Err e) s is = absurd (cc is)

    pub no_tick_mine : (result : Result (Unit {0}) start.StartRefused) (e : start.StartRefused) → Steps rule r p q (λ set seat. TickDid seat now result)
        → result ≡ Err e → q.view.known.mine ≡ p.view.known.mine
    no_tick_mine (Ok x) e s is = absurd (cc is)
    no_tick_mine (Err x) e s is = s.mine [] (s.did.kept ∙ sym (append-nil s.before)) ∙ append-nil p.view.known.mine

    tick_is_full : (b : Bool) → refused_where b start.TheVariants.JournalFull ≡ Some start.TheVariants.JournalFull → b ≡ true
    tick_is_full true is = refl
    tick_is_full false is = absurd (cc is)

    pub tick_full : (result : Result (Unit {0}) start.StartRefused) → Steps rule r p q (λ set seat. TickDid seat now result)
        → result ≡ Err start.TheVariants.JournalFull → MAX_ENTRIES ≤ length q.view.known.seen
    tick_full (Ok o) s is = absurd (cc is)
    tick_full (Err start.TheVariants.Memory) s is = absurd (cc is)
    tick_full (Err start.TheVariants.JournalFull) s is = at s.did.cause
      where
        at : (start.TheVariants.JournalFull ≡ start.TheVariants.Memory) ⊎ (tick_refusal s.before ≡ Some start.TheVariants.JournalFull) → MAX_ENTRIES ≤ length q.view.known.seen
        at (inl memory) = absurd (cc memory)
        at (inr refused) = subst (λ h. MAX_ENTRIES ≤ length h) (sym s.did.kept) (full_length s.before (tick_is_full _ refused))

  -- flush_front
  pub flush_adds : (result : Option Item) → Steps rule r p q (λ set seat. FlushDid set seat result) → Adds rule r is_pumps p q
  flush_adds (Some item) s = adds_one rule r p q (λ set seat. FlushDid set seat (Some item)) is_pumps Flush s s.did.adds refl (λ is. absurd (cc is))
  flush_adds None s = adds_none rule r p q (λ set seat. FlushDid set seat None) is_pumps s s.did.kept

  -- look
  module _ (look : Look) (s : Steps rule r p q (λ set _. LookDid set look)) where
    pub look_adds : (test : EntryKind → Bool) → Adds rule r test p q
    look_adds test = adds_none rule r p q (λ set _. LookDid set look) test s s.did.adds_nothing

    pub look_mine : q.view.known.mine ≡ p.view.known.mine
    look_mine = s.mine [] (s.did.adds_nothing ∙ sym (append-nil s.before)) ∙ append-nil p.view.known.mine

    pub look_halted : is_some look.halted ≡ true → is_halted r.base q.view.known.seen ≡ true
    look_halted is =
        ap (is_halted r.base) s.did.adds_nothing ∙ (sym (ap is_some s.did.halted) ∙ is)

    pub look_settled : look.settled ≡ true → is_settled (history r.base q.view.known.seen) ≡ true
    look_settled is = ap (λ h. is_settled (history r.base h)) s.did.adds_nothing ∙ (sym s.did.settled ∙ is)
