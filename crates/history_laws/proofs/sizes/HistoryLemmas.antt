-- How many entries the history of one thread has, and a full beginning of one.
use Rattle.std.proofs.Common.{◌≡◌, ◌⊎◌, ℕ, ◌+◌, ◌≤◌, Bool, true, List, [], ◌∷◌, ◌++◌, length, reverse, sum_by, IsTrue, refl, ap, sym, ◌∙◌, subst, inl, inr, arith}
use Rattle.std.proofs.lemmas.List.{reverse-append}
use Rattle.std.proofs.lemmas.List.Sums.{sum_by-cons, sum_by_push}
use Rattle.rpc_ids.specs.declared.method.Role.TheVariants.{Server}
use Rattle.rpc_packet.specs.declared.owned.Packet.{Packet}
use Rattle.rpc_handlers.specs.declared.event.Event.{Event}
use Rattle.rpc_handlers.specs.declared.event.Memo.{Memo}
use Rattle.rpc_handlers.specs.HandlerRule.{HandlerRule}
use Rattle.rpc_journal.specs.declared.entry.Entry.{Entry}
use Rattle.rpc_journal.specs.declared.entry.EntryKind.{EntryKind}
use Rattle.rpc_journal.specs.declared.entry.EntryKind.TheVariants.{Arrive, EndIn}
use Rattle.rpc_journal.specs.declared.setting.Setting.{Setting}
use Rattle.rpc_journal.specs.Effect.{Deed, Opening}
use Rattle.rpc_journal.specs.Entries.{arrive_row}
use Rattle.rpc_journal.specs.States.{opened_state}
use Rattle.rpc_journal.specs.History.{adding, entry_by, history}
use Rattle.rpc_journal.proofs.Push.{history-push}
use Rattle.rpc_journal.proofs.VerdictLemmas.{history_length}
use Rattle.rpc_schedule.specs.OneThread.{AwaitsArrive, AwaitsStart, Handled, IsFullBeginning, IsOneThreadHistory, OpensLast}
use Rattle.rpc_schedule.specs.Schedule.{Reaches, input_seat}
use Rattle.rpc_schedule.specs.Schedule.Stage.{running}
use Rattle.history_laws.specs.sizes.Size.{AnswersWithin, BeginGood, arrival_entries, history_entries}
use Rattle.history_laws.proofs.sizes.ArrivalLemmas.{arrived, ended}
use Rattle.history_laws.proofs.sizes.Books.{Books, entries_at_most, fresh, nothing_owed}
use Rattle.history_laws.proofs.sizes.CostLemmas.{closing}
use Rattle.history_laws.proofs.sizes.GoodStates.{good_still, row_opens}
use Rattle.history_laws.proofs.sizes.TurnLemmas.{Stands, settles_keep, turns_keep}

sum_by-reverse : {A : Type 0} (f : A → ℕ) (xs : List A) → sum_by f (reverse xs) ≡ sum_by f xs
sum_by-reverse f [] = refl
sum_by-reverse f (x ∷ xs) =
    let front = ap (sum_by f) (reverse-append (x ∷ []) xs) in
    let back = sum_by_push f (reverse xs) x in
    omega (arith, front, back, sum_by-reverse f xs, sum_by-cons f x xs)

begin_reversed : (rule : HandlerRule) (set : Setting) (good : Memo → Bool) (packets : List Packet) → BeginGood rule set good packets
    → BeginGood rule set good (reverse packets)
begin_reversed rule set good [] all = tt
begin_reversed rule set good (p ∷ packets) all =
    subst (BeginGood rule set good) (sym (reverse-append (p ∷ []) packets)) (begin_push (reverse packets) (begin_reversed rule set good packets all.1))
  where
    begin_push : (front : List Packet) → BeginGood rule set good front → BeginGood rule set good (front ++ p ∷ [])
    begin_push [] none = (all.0, tt)
    begin_push (q ∷ front) each = (each.0, begin_push front each.1)

-- of packets that end with this one, the earlier ones, and the last
begin_parts : (rule : HandlerRule) (set : Setting) (good : Memo → Bool) (earlier : List Packet) (p : Packet) → BeginGood rule set good (earlier ++ p ∷ [])
    → BeginGood rule set good earlier × BeginGood rule set good (p ∷ [])
begin_parts rule set good [] p all = (tt, all)
begin_parts rule set good (q ∷ earlier) p all = let rest = begin_parts rule set good earlier p all.1 in ((all.0, rest.0), rest.1)

module _ (rule : HandlerRule) (set : Setting) (good : Memo → Bool) (most : Event → ℕ) (role : set.role ≡ Server) (ruled : IsTrue rule.ruled)
    (answers : AnswersWithin rule good most) where
  -- the account of what is owed to calls that are there, and of what isn't any more
  abbrev Open : ℕ → List Deed → Type 0
  Open budget ds = Stands rule set good most role ruled answers (closing most) budget ds

  abbrev Ended : ℕ → List Deed → Type 0
  Ended budget ds = Stands rule set good most role ruled answers nothing_owed budget ds

  -- a packet arrives
  arrived_keeps : (budget : ℕ) (h : List Entry) (p : Packet) → BeginGood rule set good (p ∷ []) → Open budget (history set h)
      → Open (budget + arrival_entries most p) (history set (adding h input_seat (Arrive p)))
  arrived_keeps budget h p begins stands =
      subst (Open (budget + arrival_entries most p)) (sym (history-push set h (entry_by input_seat (Arrive p))))
      (record {
        books = arrived most set budget (history set h) p role stands.books;
        states = (record { opens = row_opens (λ o. good (opened_state rule set o) ≡ true) p set (history set h) role begins.0; keeps = λ c. refl }, stands.states);
      })

  handled_keeps : (packets : List Packet) (h : List Entry) → BeginGood rule set good packets → Handled rule set packets h
      → Open (history_entries most packets) (history set h)
  handled_keeps [] h begins none = subst (λ x. Open 0 (history set x)) (sym none) (record { books = fresh most (closing most) refl; states = tt })
  handled_keeps (p ∷ earlier) h begins handled =
      let budget : ℕ = history_entries most earlier in
      let more : budget + arrival_entries most p ≡ history_entries most (p ∷ earlier) = omega (arith, sum_by-cons (arrival_entries most) p earlier) in
      subst (λ n. Open n (history set h)) more
      (settles_keep rule set good most role ruled answers (closing most) (budget + arrival_entries most p) (adding handled.0 input_seat (Arrive p)) h handled.2
      (arrived_keeps budget handled.0 p (begins.0, tt) (handled_keeps earlier handled.0 begins.1 handled.1)))

  in_order : (packets : List Packet) (h : List Entry) → BeginGood rule set good packets → Handled rule set (reverse packets) h
      → Open (history_entries most packets) (history set h)
  in_order packets h begins handled =
      subst (λ n. Open n (history set h)) (sum_by-reverse (arrival_entries most) packets)
      (handled_keeps (reverse packets) h (begin_reversed rule set good packets begins) handled)

  ended_keeps : (packets : List Packet) (h : List Entry) → BeginGood rule set good packets → Handled rule set (reverse packets) h
      → Ended (history_entries most packets + 1) (history set (adding h input_seat EndIn))
  ended_keeps packets h begins handled =
      let before = in_order packets h begins handled in
      subst (Ended (history_entries most packets + 1)) (sym (history-push set h (entry_by input_seat EndIn)))
      (record {
        books = ended most set (history_entries most packets) (history set h) before.books;
        states = (good_still rule set good answers.stays _ refl (λ c. refl), before.states);
      })

  at_most : (owed : List Opening → ℕ) (budget : ℕ) (h : List Entry) → Stands rule set good most role ruled answers owed budget (history set h) → length h ≤ budget
  at_most owed budget h stands = omega (arith, entries_at_most most owed budget (history set h) stands.books, history_length set h)

  pub whole_entries : (packets : List Packet) (h : List Entry) → BeginGood rule set good packets → IsOneThreadHistory rule set packets h
      → length h ≤ history_entries most packets + 1
  whole_entries packets h begins history =
      at_most nothing_owed (history_entries most packets + 1) h
      (settles_keep rule set good most role ruled answers nothing_owed (history_entries most packets + 1) (adding history.before input_seat EndIn) h history.settled
      (ended_keeps packets history.before begins history.handled))

  -- the earlier packets, and the last
  with_last : (packets earlier : List Packet) (p : Packet) → packets ≡ earlier ++ p ∷ []
      → history_entries most packets ≡ history_entries most earlier + arrival_entries most p
  with_last packets earlier p are = ap (history_entries most) are ∙ sum_by_push (arrival_entries most) earlier p

  underway_entries : (packets : List Packet) (before h : List Entry) (kind : EntryKind) → BeginGood rule set good packets → OpensLast rule set packets before kind
      → Reaches rule set (running (adding before input_seat kind)) (running h) → length h ≤ history_entries most packets + 1
  underway_entries packets before h (Arrive p) begins opens reaches =
      let budget : ℕ = history_entries most opens.0 + arrival_entries most p in
      let parts = begin_parts rule set good opens.0 p (subst (BeginGood rule set good) opens.1 begins) in
      let there : length h ≤ budget =
      at_most (closing most) budget h
      (turns_keep rule set good most role ruled answers (closing most) budget reaches.0 (running (adding before input_seat (Arrive p))) (running h) reaches.1
      (arrived_keeps (history_entries most opens.0) before p parts.1 (in_order opens.0 before parts.0 opens.2))) in
      omega (arith, there, with_last packets opens.0 p opens.1)
  underway_entries packets before h EndIn begins opens reaches =
      at_most nothing_owed (history_entries most packets + 1) h
      (turns_keep rule set good most role ruled answers nothing_owed (history_entries most packets + 1) reaches.0 (running (adding before input_seat EndIn)) (running h)
      reaches.1 (ended_keeps packets before begins opens))
  underway_entries packets before h _ begins opens reaches = absurd opens

  awaits_entries : (packets : List Packet) (h : List Entry) → BeginGood rule set good packets
      → AwaitsArrive rule set packets h ⊎ AwaitsStart rule set packets h → length h ≤ history_entries most packets + 1
  awaits_entries packets h begins (inl awaits) =
      let parts = begin_parts rule set good awaits.earlier awaits.last (subst (BeginGood rule set good) awaits.packets_are begins) in
      omega (
        arith,
        with_last packets awaits.earlier awaits.last awaits.packets_are,
        at_most (closing most) (history_entries most awaits.earlier) h (in_order awaits.earlier h parts.0 awaits.handled),
      )
  awaits_entries packets h begins (inr awaits) =
      underway_entries packets awaits.underway.before h awaits.underway.opening begins awaits.underway.opens awaits.underway.reaches

  pub full_entries : (packets : List Packet) (h : List Entry) → BeginGood rule set good packets → IsFullBeginning rule set packets h
      → length h ≤ history_entries most packets + 1
  full_entries packets h begins full = awaits_entries packets h begins full.next
