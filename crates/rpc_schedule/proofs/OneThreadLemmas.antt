-- The entries and the arrivals of a history of one thread.
use Rattle.std.proofs.Common.{◌≡◌, ◌⊎◌, ℕ, zero, suc, true, List, [], ◌∷◌, ◌++◌, reverse, refl, ap, sym, ◌∙◌, subst, inl, inr}
use Rattle.std.proofs.lemmas.List.{append-nil, reverse-append, reverse-reverse}
use mathlib.Core.List.{IsPrefix}
use Rattle.rpc_packet.specs.declared.owned.Packet.{Packet}
use Rattle.rpc_handlers.specs.HandlerRule.{HandlerRule}
use Rattle.rpc_journal.specs.declared.entry.Entry.{Entry}
use Rattle.rpc_journal.specs.declared.entry.EntryKind.{EntryKind}
use Rattle.rpc_journal.specs.declared.entry.EntryKind.TheVariants.{Arrive, Start, Finish, Flush, EndIn}
use Rattle.rpc_journal.specs.declared.item.Item.{Item}
use Rattle.rpc_journal.specs.declared.setting.Setting.{Setting}
use Rattle.rpc_journal.specs.History.{adding, entry_by}
use Rattle.rpc_journal.specs.Items.{arrivals}
use Rattle.rpc_schedule.specs.OneThread.{AreOfOneThread, AwaitsArrive, AwaitsStart, Handled, IsFullBeginning, IsOneThreadHistory, IsStoreStop, IsUnderway, OpensLast, is_of_one_thread}
use Rattle.rpc_schedule.specs.Schedule.{Settles, Stage, Turn, Turns, flush_seat, input_seat, run_seat}
use Rattle.rpc_schedule.specs.Schedule.Stage.{running, flushing}
use Rattle.rpc_schedule.proofs.EntryLemmas.{arrivals-push}
use Rattle.rpc_schedule.proofs.ScheduleLemmas.{entries_of, stop_underway}
use Rattle.rpc_schedule.proofs.ServingLemmas.{run_arrivals}

all_adding : (h : List Entry) (seat : ℕ) (kind : EntryKind) → AreOfOneThread h → is_of_one_thread seat kind ≡ true → AreOfOneThread (adding h seat kind)
all_adding [] seat kind all is = (is, tt)
all_adding (e ∷ h) seat kind all is = (all.0, all_adding h seat kind all.1 is)

module _ (rule : HandlerRule) (set : Setting) where
  turn_all : (a b : Stage) → Turn rule set a b → AreOfOneThread (entries_of a) → AreOfOneThread (entries_of b)
  turn_all (running h) (running now) ran all =
      subst AreOfOneThread (sym ran.adds)
      (all_adding (adding h run_seat (Start ran.call)) run_seat (Finish ran.call ran.answer) (all_adding h run_seat (Start ran.call) all refl) refl)
  turn_all (running h) (flushing now) turn all = subst AreOfOneThread (sym turn.1) all
  turn_all (flushing h) (flushing now) flushed all = subst AreOfOneThread (sym flushed.adds) (all_adding h flush_seat Flush all refl)
  turn_all (flushing h) (running now) turn all = subst AreOfOneThread (sym turn.2) all

  turns_all : (n : ℕ) (a b : Stage) → Turns rule set n a b → AreOfOneThread (entries_of a) → AreOfOneThread (entries_of b)
  turns_all zero a b same all = subst (λ s. AreOfOneThread (entries_of s)) same all
  turns_all (suc n) a b turns all = turns_all n turns.0 b turns.2 (turn_all a turns.0 turns.1 all)

  settles_all : (h now : List Entry) → Settles rule set h now → AreOfOneThread h → AreOfOneThread now
  settles_all h now settles all = turns_all settles.reaches.0 (running h) (flushing now) settles.reaches.1 all

  handled_all : (packets : List Packet) (h : List Entry) → Handled rule set packets h → AreOfOneThread h
  handled_all [] h none = subst AreOfOneThread (sym none) tt
  handled_all (p ∷ earlier) h handled =
      settles_all (adding handled.0 input_seat (Arrive p)) h handled.2
      (all_adding handled.0 input_seat (Arrive p) (handled_all earlier handled.0 handled.1) refl)

  opens_all : (packets : List Packet) (h : List Entry) (kind : EntryKind) → OpensLast rule set packets h kind → AreOfOneThread (adding h input_seat kind)
  opens_all packets h (Arrive p) opens = all_adding h input_seat (Arrive p) (handled_all (reverse opens.0) h opens.2) refl
  opens_all packets h EndIn opens = all_adding h input_seat EndIn (handled_all (reverse packets) h opens) refl
  opens_all packets h _ opens = absurd opens

  underway_all : (packets : List Packet) (t : Stage) → IsUnderway rule set packets t → AreOfOneThread (entries_of t)
  underway_all packets t way =
      turns_all way.reaches.0 (running (adding way.before input_seat way.opening)) t way.reaches.1 (opens_all packets way.before way.opening way.opens)

  awaits_all : (packets : List Packet) (h : List Entry) → AwaitsArrive rule set packets h ⊎ AwaitsStart rule set packets h → AreOfOneThread h
  awaits_all packets h (inl awaits) = handled_all (reverse awaits.earlier) h awaits.handled
  awaits_all packets h (inr awaits) = underway_all packets (running h) awaits.underway

  -- no turn is an arrival
  turn_arrivals : (a b : Stage) → Turn rule set a b → arrivals (entries_of b) ≡ arrivals (entries_of a)
  turn_arrivals (running h) (running now) ran = ap arrivals ran.adds ∙ run_arrivals h ran.call ran.answer
  turn_arrivals (running h) (flushing now) turn = ap arrivals turn.1
  turn_arrivals (flushing h) (flushing now) flushed =
      ap arrivals flushed.adds ∙ (arrivals-push h (entry_by flush_seat Flush) ∙ append-nil (arrivals h))
  turn_arrivals (flushing h) (running now) turn = ap arrivals turn.2

  turns_arrivals : (n : ℕ) (a b : Stage) → Turns rule set n a b → arrivals (entries_of b) ≡ arrivals (entries_of a)
  turns_arrivals zero a b same = ap (λ s. arrivals (entries_of s)) (sym same)
  turns_arrivals (suc n) a b turns = turns_arrivals n turns.0 b turns.2 ∙ turn_arrivals a turns.0 turns.1

  settles_arrivals : (h now : List Entry) → Settles rule set h now → arrivals now ≡ arrivals h
  settles_arrivals h now settles = turns_arrivals settles.reaches.0 (running h) (flushing now) settles.reaches.1

  handled_arrivals : (packets : List Packet) (h : List Entry) → Handled rule set packets h → arrivals h ≡ reverse packets
  handled_arrivals [] h none = ap arrivals none
  handled_arrivals (p ∷ earlier) h handled =
      settles_arrivals (adding handled.0 input_seat (Arrive p)) h handled.2
      ∙ (arrivals-push handled.0 (entry_by input_seat (Arrive p))
      ∙ (ap (λ ps. ps ++ p ∷ []) (handled_arrivals earlier handled.0 handled.1) ∙ sym (reverse-append (p ∷ []) earlier)))

  handled_in_order : (packets : List Packet) (h : List Entry) → Handled rule set (reverse packets) h → arrivals h ≡ packets
  handled_in_order packets h handled = handled_arrivals (reverse packets) h handled ∙ reverse-reverse packets

  end_arrivals : (packets : List Packet) (h : List Entry) → Handled rule set (reverse packets) h → arrivals (adding h input_seat EndIn) ≡ packets
  end_arrivals packets h handled =
      arrivals-push h (entry_by input_seat EndIn) ∙ (append-nil (arrivals h) ∙ handled_in_order packets h handled)

  opens_arrivals : (packets : List Packet) (h : List Entry) (kind : EntryKind) → OpensLast rule set packets h kind → arrivals (adding h input_seat kind) ≡ packets
  opens_arrivals packets h (Arrive p) opens =
      arrivals-push h (entry_by input_seat (Arrive p)) ∙ (ap (λ ps. ps ++ p ∷ []) (handled_in_order opens.0 h opens.2) ∙ sym opens.1)
  opens_arrivals packets h EndIn opens = end_arrivals packets h opens
  opens_arrivals packets h _ opens = absurd opens

  underway_arrivals : (packets : List Packet) (t : Stage) → IsUnderway rule set packets t → IsPrefix (arrivals (entries_of t)) packets
  underway_arrivals packets t way =
      let same : arrivals (entries_of t) ≡ packets =
      turns_arrivals way.reaches.0 (running (adding way.before input_seat way.opening)) t way.reaches.1 ∙ opens_arrivals packets way.before way.opening way.opens in
      ([], append-nil (arrivals (entries_of t)) ∙ same)

  awaits_arrivals : (packets : List Packet) (h : List Entry) → AwaitsArrive rule set packets h ⊎ AwaitsStart rule set packets h → IsPrefix (arrivals h) packets
  awaits_arrivals packets h (inl awaits) =
      (awaits.last ∷ [], ap (λ ps. ps ++ awaits.last ∷ []) (handled_in_order awaits.earlier h awaits.handled) ∙ sym awaits.packets_are)
  awaits_arrivals packets h (inr awaits) = underway_arrivals packets (running h) awaits.underway

  pub whole_all : (packets : List Packet) (h : List Entry) → IsOneThreadHistory rule set packets h → AreOfOneThread h
  whole_all packets h history =
      settles_all (adding history.before input_seat EndIn) h history.settled
      (all_adding history.before input_seat EndIn (handled_all (reverse packets) history.before history.handled) refl)

  pub full_all : (packets : List Packet) (h : List Entry) → IsFullBeginning rule set packets h → AreOfOneThread h
  full_all packets h full = awaits_all packets h full.next

  pub whole_arrivals : (packets : List Packet) (h : List Entry) → IsOneThreadHistory rule set packets h → arrivals h ≡ packets
  whole_arrivals packets h history =
      settles_arrivals (adding history.before input_seat EndIn) h history.settled ∙ end_arrivals packets history.before history.handled

  pub full_arrivals : (packets : List Packet) (h : List Entry) → IsFullBeginning rule set packets h → IsPrefix (arrivals h) packets
  full_arrivals packets h full = awaits_arrivals packets h full.next

  pub store_all : (packets : List Packet) (h : List Entry) (items : List Item) → IsStoreStop rule set packets h items → AreOfOneThread h
  store_all packets h items stop = underway_all packets (flushing h) (stop_underway rule set packets h items stop)

  pub store_arrivals : (packets : List Packet) (h : List Entry) (items : List Item) → IsStoreStop rule set packets h items → IsPrefix (arrivals h) packets
  store_arrivals packets h items stop = underway_arrivals packets (flushing h) (stop_underway rule set packets h items stop)
