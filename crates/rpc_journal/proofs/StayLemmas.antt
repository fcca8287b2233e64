-- What stays of a history as it goes on, and which seats made what.
use Rattle.std.proofs.Common.{◌≡◌, ◌≢◌, ◌⊎◌, ℕ, zero, suc, ◌+◌, ◌<◌, ◌≤◌, Bool, true, false, not, ◌&&◌, ◌||◌, ◌==◌, nat_le, List, [], ◌∷◌, ◌++◌, length, drop, reverse, count_by, Option, Some, None, is_some, is_none, if◌then◌else◌, refl, ap, sym, ◌∙◌, subst, inl, inr, eq-eqb, ne_eqb, arith, append_assoc, lt_of_not-le}
use Rattle.std.proofs.Math.Bool.{or-false, or_comm}
use Rattle.std.proofs.Math.Seq.{drop-nil}
use Rattle.std.proofs.lemmas.Bool.{true≢false, false≢true, and_parts, not-true, not-false, eqb-true, eqb-false, leb-false}
use Rattle.std.proofs.lemmas.List.{reverse-append}
use Rattle.std.proofs.lemmas.List.Folds.{list_any-append}
use Rattle.std.specs.List.{AllByRecursion, list_any}
use Rattle.entry_lists.specs.Entries.{made_by}
use Rattle.link_io.specs.declared.why.Why.{Why}
use Rattle.rpc_packet.specs.declared.owned.Packet.{Packet}
use Rattle.rpc_handlers.specs.declared.event.Event.{Event}
use Rattle.rpc_journal.specs.declared.entry.Entry.{Entry}
use Rattle.rpc_journal.specs.declared.entry.EntryKind.{EntryKind}
use Rattle.rpc_journal.specs.declared.entry.EntryKind.TheVariants.{Arrive, Invoke, Say, Done, Start, Finish, Replace, Cancel, Tick, Flush, EndIn, Halt, Close}
use Rattle.rpc_journal.specs.declared.setting.Setting.{Setting}
use Rattle.rpc_journal.specs.Calls.{call_count, is_cancelled, runner_of}
use Rattle.rpc_journal.specs.Conditions.{IsCall}
use Rattle.rpc_journal.specs.Effect.{Deed}
use Rattle.rpc_journal.specs.Entries.{arrive_row}
use Rattle.rpc_journal.specs.History.{history, deeds_of}
use Rattle.rpc_journal.specs.Items.{ends_input, halt_reason, input_ended, is_end_in, is_for, is_ready, moment_of, moments, reason_of}
use Rattle.rpc_journal.specs.Lawful.{AllowedAll, IsLawful, full_among, full_queue, is_refused, is_wrong_seat}
use Rattle.rpc_journal.specs.Laws.{is_serving, seat_of}
use Rattle.rpc_journal.specs.Kinds.{is_empty, or_else}
use Rattle.rpc_journal.specs.Queues.{is_ended, messages_waiting, starts_since, waiting_of}
use Rattle.rpc_journal.specs.Quiet.{all_below, is_settled, is_still}
use Rattle.rpc_journal.proofs.Allowed.{Allowed, allowed}
use Rattle.rpc_journal.proofs.ItemLemmas.{right_seats}
use Rattle.rpc_journal.proofs.KnownLemmas.{ready_known, run_known, unput}
use Rattle.rpc_journal.proofs.RunLemmas.{ready_uncancelled}
use Rattle.rpc_journal.proofs.PlaceLemmas.{some_same}
use Rattle.rpc_journal.proofs.Push.{all-unreverse, allowed-parts, history-push, lawful-front}

-- of entries that stand the newest first: the reason of a Halt stays
halt_from : (set : Setting) (new old : List Entry) (why : Why) → AllowedAll set (new ++ old) → halt_reason (deeds_of set old) ≡ Some why
    → halt_reason (deeds_of set (new ++ old)) ≡ Some why
halt_from set [] old why all is = is
halt_from set (e ∷ new) old why all is = at e.kind (halt_from set new old why all.0 is) (allowed set (deeds_of set (new ++ old)) e all.1).accepted
  where
    twice : {A : Type 0} (o : Option Why) (b : Bool) → o ≡ Some why → (is_some o || b) ≡ false → A
    twice None b same fits = absurd cc
    twice (Some x) b same fits = absurd (true≢false fits)

    at : (kind : EntryKind) → halt_reason (deeds_of set (new ++ old)) ≡ Some why → is_refused set (deeds_of set (new ++ old)) kind ≡ false
        → or_else (reason_of kind) (halt_reason (deeds_of set (new ++ old))) ≡ Some why
    at (Halt other) before fits = twice (halt_reason (deeds_of set (new ++ old))) _ before fits
    at _ before fits = before

pub halt_stays : (set : Setting) (h more : List Entry) (why : Why) → IsLawful set (h ++ more) → halt_reason (history set h) ≡ Some why
    → halt_reason (history set (h ++ more)) ≡ Some why
halt_stays set h more why lawful is =
    subst (λ es. halt_reason (deeds_of set es) ≡ Some why) (sym (reverse-append h more))
    (halt_from set (reverse more) (reverse h) why (allowed-parts set h more lawful) is)

-- the moments of a list are those of seat 1's entries
moment_none : (seat : ℕ) (kind : EntryKind) → (seat == 1) ≡ false → is_wrong_seat seat kind ≡ false → moment_of kind ≡ []
moment_none seat (Tick now) other right = absurd (true≢false (sym (ap not other) ∙ right))
moment_none seat _ other right = refl

moments-made_by : (h : List Entry) → AllByRecursion (λ e. is_wrong_seat e.seat e.kind ≡ false) h → moments h ≡ moments (made_by seat_of 1 h)
moments-made_by [] right = refl
moments-made_by (e ∷ h) right = at (e.seat == 1) refl (moments-made_by h right.1)
  where
    at : (b : Bool) → (e.seat == 1) ≡ b → moments h ≡ moments (made_by seat_of 1 h)
        → moment_of e.kind ++ moments h ≡ moments (if b then e ∷ made_by seat_of 1 h else made_by seat_of 1 h)
    at true is rest = ap (λ ns. moment_of e.kind ++ ns) rest
    at false is rest = rw (moment_none e.seat e.kind is right.0) rest

pub moments_of_seat : (set : Setting) (h : List Entry) → IsLawful set h → moments h ≡ moments (made_by seat_of 1 h)
moments_of_seat set h lawful = moments-made_by h (all-unreverse _ h (right_seats set (reverse h) lawful.allowed))

-- and an EndIn is by seat 0
end_in_none : (seat : ℕ) (kind : EntryKind) → (seat == 0) ≡ false → is_wrong_seat seat kind ≡ false → is_end_in kind ≡ false
end_in_none seat EndIn other right = absurd (true≢false (sym (ap not other) ∙ right))
end_in_none seat _ other right = refl

ends-made_by : (h : List Entry) → AllByRecursion (λ e. is_wrong_seat e.seat e.kind ≡ false) h → ends_input h ≡ ends_input (made_by seat_of 0 h)
ends-made_by [] right = refl
ends-made_by (e ∷ h) right = at (e.seat == 0) refl (ends-made_by h right.1)
  where
    at : (b : Bool) → (e.seat == 0) ≡ b → ends_input h ≡ ends_input (made_by seat_of 0 h)
        → (is_end_in e.kind || ends_input h) ≡ ends_input (if b then e ∷ made_by seat_of 0 h else made_by seat_of 0 h)
    at true is rest = ap (λ b. is_end_in e.kind || b) rest
    at false is rest = rw (end_in_none e.seat e.kind is right.0) rest

ended_told : (set : Setting) (es : List Entry) → input_ended (deeds_of set es) ≡ ends_input es
ended_told set [] = refl
ended_told set (e ∷ es) = ap (λ b. is_end_in e.kind || b) (ended_told set es)

ends-reverse : (h : List Entry) → ends_input (reverse h) ≡ ends_input h
ends-reverse [] = refl
ends-reverse (e ∷ h) =
    ap ends_input (reverse-append (e ∷ []) h)
    ∙ (list_any-append (λ x. is_end_in x.kind) (reverse h) (e ∷ [])
    ∙ (ap (λ b. b || ends_input (e ∷ [])) (ends-reverse h) ∙ (ap (λ b. ends_input h || b) (or-false (is_end_in e.kind)) ∙ or_comm (ends_input h) (is_end_in e.kind))))

pub end_in_of_seat : (set : Setting) (h : List Entry) → IsLawful set h → input_ended (history set h) ≡ ends_input (made_by seat_of 0 h)
end_in_of_seat set h lawful =
    ended_told set (reverse h) ∙ (ends-reverse h ∙ ends-made_by h (all-unreverse _ h (right_seats set (reverse h) lawful.allowed)))

-- no event waits for a call that isn't there
unwaited : (set : Setting) (h : List Entry) (c : ℕ) → call_count (deeds_of set h) ≤ c → waiting_of (deeds_of set h) c ≡ []
unwaited set h c beyond = ap (drop (starts_since (deeds_of set h) c)) (unput set h c beyond) ∙ drop-nil (starts_since (deeds_of set h) c)

-- the call whose queue is full is there
full_there : (set : Setting) (h : List Entry) (c : ℕ) (puts : List (ℕ × Event)) → full_among (deeds_of set h) puts ≡ Some c → c < call_count (deeds_of set h)
full_there set h c [] is = absurd cc
full_there set h c (put ∷ puts) is = at (not (is_ended put.1) && nat_le 64 (messages_waiting (deeds_of set h) put.0)) refl is (full_there set h c puts)
  where
    many : put.0 ≡ c → nat_le 64 (messages_waiting (deeds_of set h) put.0) ≡ true → c < call_count (deeds_of set h)
    many it full = lt_of_not-le (λ beyond.
        let none : waiting_of (deeds_of set h) put.0 ≡ [] = ap (waiting_of (deeds_of set h)) it ∙ unwaited set h c beyond in
        let full_none : nat_le 64 0 ≡ true = subst (λ ws. nat_le 64 (count_by (λ w. not (is_ended w.event)) ws) ≡ true) none full in
        false≢true full_none)

    at : (b : Bool) → (not (is_ended put.1) && nat_le 64 (messages_waiting (deeds_of set h) put.0)) ≡ b
        → (if b then Some put.0 else full_among (deeds_of set h) puts) ≡ Some c → (full_among (deeds_of set h) puts ≡ Some c → c < call_count (deeds_of set h)) → c < call_count (deeds_of set h)
    at true tested is rest = many (some_same put.0 c is) (and_parts (not (is_ended put.1)) (nat_le 64 (messages_waiting (deeds_of set h) put.0)) tested).1
    at false tested is rest = rest is

pub full_known : (set : Setting) (h : List Entry) (p : Packet) (c : ℕ) → full_queue set (history set h) p ≡ Some c → IsCall set h c
full_known set h p c is = record { below = full_there set (reverse h) c (arrive_row set (history set h) p).does.puts is }

-- what holds of all numbers below one holds of each
pub all_at : (n c : ℕ) (test : ℕ → Bool) → all_below n test ≡ true → c < n → test c ≡ true
all_at zero c test all below = absurd (omega (arith, below))
all_at (suc n) c test all below =
    let parts = and_parts (all_below n test) (test n) all in
    at (c == n) refl parts.1 (all_at n c test parts.0)
  where
    at : (b : Bool) → (c == n) ≡ b → test n ≡ true → (c < n → test c ≡ true) → test c ≡ true
    at true same last before = subst (λ k. test k ≡ true) (sym (eqb-true c n same)) last
    at false apart last before = before (omega (arith, below, eqb-false c n apart))

-- of a settled history
record Settled (set : Setting) (h : List Entry) : Type 0 where
  ended : input_ended (deeds_of set h) ≡ true
  still : all_below (call_count (deeds_of set h)) (is_still (deeds_of set h)) ≡ true

settled_parts : (set : Setting) (h : List Entry) → is_settled (deeds_of set h) ≡ true → Settled set h
settled_parts set h is =
    let parts = and_parts _ _ (and_parts _ _ is).0 in
    record { ended = parts.0; still = parts.1 }

-- no call of it is ready, and none runs
none_ready : (set : Setting) (h : List Entry) (c : ℕ) → Settled set h → is_ready (deeds_of set h) c ≡ true → ⊥
none_ready set h c settled ready =
    let still = and_parts (is_none (runner_of (deeds_of set h) c)) _ (all_at _ c (is_still (deeds_of set h)) settled.still (ready_known set h c ready)) in
    let waits : is_empty (waiting_of (deeds_of set h) c) ≡ false = not-true _ (and_parts _ _ (and_parts _ _ (and_parts _ _ (and_parts _ _ ready).0).0).0).0 in
    let none : (is_cancelled (deeds_of set h) c || is_empty (waiting_of (deeds_of set h) c)) ≡ false = rw (ready_uncancelled (deeds_of set h) c ready, waits) refl in
    true≢false (sym still.1 ∙ none)

none_on : (set : Setting) (h : List Entry) (c seat : ℕ) → AllowedAll set h → Settled set h → is_for seat (runner_of (deeds_of set h) c) ≡ true → ⊥
none_on set h c seat all settled on = at (runner_of (deeds_of set h) c) refl on
  where
    at : (o : Option ℕ) → runner_of (deeds_of set h) c ≡ o → is_for seat o ≡ true → ⊥
    at None is on = false≢true on
    at (Some s) is on =
        let still = and_parts (is_none (runner_of (deeds_of set h) c)) _ (all_at _ c (is_still (deeds_of set h)) settled.still (run_known set h c s all is)) in
        false≢true (sym (ap is_none is) ∙ still.0)

unmet : (b : Bool) → (b ≡ true → ⊥) → not b ≡ false → ⊥
unmet true never fits = never refl
unmet false never fits = true≢false fits

settled_allows : (set : Setting) (h : List Entry) (seat : ℕ) (kind : EntryKind) → AllowedAll set h → Settled set h
    → Allowed set (deeds_of set h) (record { seat = seat; kind = kind }) → is_serving kind ≡ true → (seat ≡ 1) ⊎ (is_some (reason_of kind) ≡ true)
settled_allows set h seat (Arrive p) all settled fits serves = absurd (true≢false (sym settled.ended ∙ fits.input))
settled_allows set h seat (Start c) all settled fits serves = absurd (unmet (is_ready (deeds_of set h) c) (none_ready set h c settled) fits.started)
settled_allows set h seat (Finish c a) all settled fits serves = absurd (unmet (is_for seat (runner_of (deeds_of set h) c)) (none_on set h c seat all settled) fits.finished)
settled_allows set h seat (Tick now) all settled fits serves = inl (eqb-true seat 1 (not-false _ fits.seat))
settled_allows set h seat Flush all settled fits serves = inl (eqb-true seat 1 (not-false _ fits.seat))
settled_allows set h seat EndIn all settled fits serves = absurd (true≢false (sym settled.ended ∙ fits.input))
settled_allows set h seat (Halt why) all settled fits serves = inr refl
settled_allows set h seat (Invoke p m) all settled fits serves = absurd (false≢true serves)
settled_allows set h seat (Say c out) all settled fits serves = absurd (false≢true serves)
settled_allows set h seat (Done c) all settled fits serves = absurd (false≢true serves)
settled_allows set h seat (Replace c m) all settled fits serves = absurd (false≢true serves)
settled_allows set h seat (Cancel c) all settled fits serves = absurd (false≢true serves)
settled_allows set h seat (Close channel) all settled fits serves = absurd (false≢true serves)

pub settled_next : (set : Setting) (h : List Entry) (e : Entry) → IsLawful set (h ++ e ∷ []) → is_settled (history set h) ≡ true → is_serving e.kind ≡ true
    → (seat_of e ≡ 1) ⊎ (is_some (reason_of e.kind) ≡ true)
settled_next set h e lawful settled serves =
    let all = allowed-parts set h (e ∷ []) lawful in
    settled_allows set (reverse h) e.seat e.kind all.0 (settled_parts set (reverse h) settled) (allowed set (deeds_of set (reverse h)) e all.1) serves

pub settled_ends : (set : Setting) (h more : List Entry) → IsLawful set (h ++ more) → is_settled (history set h) ≡ true
    → AllByRecursion (λ e. is_serving e.kind ≡ true) more → halt_reason (history set (h ++ more)) ≡ None → made_by seat_of 1 more ≡ []
    → more ≡ []
settled_ends set h [] lawful settled serving unhalted none = refl
settled_ends set h (e ∷ more) lawful settled serving unhalted none =
    let same : h ++ e ∷ more ≡ (h ++ e ∷ []) ++ more = sym (append_assoc h (e ∷ []) more) in
    let whole : IsLawful set ((h ++ e ∷ []) ++ more) = subst (IsLawful set) same lawful in
    at (settled_next set h e (lawful-front set (h ++ e ∷ []) more whole) settled serving.0) whole same
  where
    of_one : e.seat ≡ 1 → e ∷ more ≡ []
    of_one is = absurd cc

    halted : {A : Type 0} → IsLawful set ((h ++ e ∷ []) ++ more) → h ++ e ∷ more ≡ (h ++ e ∷ []) ++ more → (o : Option Why) → reason_of e.kind ≡ o → is_some o ≡ true → A
    halted whole same None is some = absurd (false≢true some)
    halted whole same (Some why) is some =
        let now : halt_reason (history set (h ++ e ∷ [])) ≡ Some why =
        ap halt_reason (history-push set h e) ∙ ap (λ o. or_else o (halt_reason (history set h))) is in
        let later : halt_reason (history set (h ++ e ∷ more)) ≡ Some why =
        subst (λ es. halt_reason (history set es) ≡ Some why) (sym same) (halt_stays set (h ++ e ∷ []) more why whole now) in
        absurd cc

    at : (e.seat ≡ 1) ⊎ (is_some (reason_of e.kind) ≡ true) → IsLawful set ((h ++ e ∷ []) ++ more) → h ++ e ∷ more ≡ (h ++ e ∷ []) ++ more → e ∷ more ≡ []
    at (inl is) whole same = of_one is
    at (inr some) whole same = halted whole same (reason_of e.kind) refl some
