-- Each call of a table keeps a legal history legal.
use Rattle.std.proofs.Common.{◌≡◌, ℕ, ◌<◌, Bool, true, false, not, ◌&&◌, List, [], ◌∷◌, length, reverse, slice_get, nat_le, Option, Some, None, Ok, Err, Result, is_some, is_none, option_map, if◌then◌else◌, refl, ap, sym, ◌∙◌, subst, eq-eqb}
use Rattle.std.proofs.lemmas.Bool.{true≢false, not-false, lt-leb}
use Rattle.std.proofs.lemmas.Option.{slice_get_within}
use Rattle.link_io.specs.declared.why.Why.{Why}
use Rattle.link_io.specs.declared.why.Why.TheVariants.{Settled}
use Rattle.rpc_packet.specs.declared.call_name.CallName.{CallName}
use Rattle.rpc_packet.specs.declared.owned.Packet.{Packet}
use Rattle.rpc_handlers.specs.declared.answer.Answer.{Answer}
use Rattle.rpc_handlers.specs.declared.answer.Out.{Out}
use Rattle.rpc_handlers.specs.declared.answer.Out.TheVariants.{Say as Message, Begin, Append, Commit, Leave}
use Rattle.rpc_handlers.specs.declared.event.Memo.{Memo}
use Rattle.rpc_handlers.specs.HandlerRule.{HandlerRule}
use Rattle.rpc_handlers.specs.Limits.{is_past_limits}
use Rattle.rpc_journal.specs.declared.entry.Entry.{Entry}
use Rattle.rpc_journal.specs.declared.entry.EntryKind.{EntryKind}
use Rattle.rpc_journal.specs.declared.entry.EntryKind.TheVariants.{Arrive, Invoke, Say, Done, Start, Finish, Replace, Cancel, Tick, Flush, EndIn, Halt, Close}
use Rattle.rpc_journal.specs.declared.setting.Setting.{Setting}
use Rattle.rpc_journal.specs.Calls.{call_at, ends_of, has_end, is_cancelled, live_call, runner_of}
use Rattle.rpc_journal.specs.ChangeLaws.{KeepsLegal}
use Rattle.rpc_journal.specs.Changes.{Accepts, StartDid, StartOfDid, FlushDid, request}
use Rattle.rpc_journal.specs.Conditions.{CanComplete, CanHalt, CanInvoke, CanSay, IsCall, IsHeard, IsInputOpen}
use Rattle.rpc_journal.specs.History.{history, deeds_of, entry_by, adding}
use Rattle.rpc_journal.specs.Items.{flush_count, halt_reason, is_done, is_for, is_ready, items_sent}
use Rattle.rpc_journal.specs.Lawful.{IsAnsweredByRule, IsLegal, full_queue, has_stream, is_settled_reason, is_unary_call}
use Rattle.rpc_journal.specs.Kinds.{is_empty, is_server, or_else}
use Rattle.rpc_journal.specs.Rows.{channels_in, method_named}
use Rattle.rpc_channel.specs.Rising.{has_id}
use Rattle.rpc_journal.specs.Refusals.{refused_where, arrive_refusal, invoke_refusal, say_refusal, done_refusal, replace_refusal, close_refusal}
use Rattle.rpc_journal.specs.Runs.{Run, IsAnswerOf, IsRunning}
use Rattle.rpc_journal.proofs.Allowed.{Allowed, allow}
use Rattle.rpc_journal.proofs.KnownLemmas.{ready_known, run_known}
use Rattle.rpc_journal.proofs.Push.{legal-push}

-- nothing speaks against a call where none of two things does
pub or_else-none : {A : Type 0} (a b : Option A) → or_else a b ≡ None → (a ≡ None) × (b ≡ None)
or_else-none None b h = (refl, h)
or_else-none (Some x) b h = absurd cc

pub refused_where-none : {E : Type 0} (b : Bool) (e : E) → refused_where b e ≡ None → b ≡ false
refused_where-none true e h = absurd cc
refused_where-none false e h = refl

pub option_map-none : {A B : Type 0} (f : A → B) (o : Option A) → option_map f o ≡ None → is_some o ≡ false
option_map-none f None h = refl
option_map-none f (Some x) h = absurd cc

no_first : {A : Type 0} (xs : List A) → is_some (slice_get xs 0) ≡ false → not (is_empty xs) ≡ false
no_first [] none = refl
no_first (x ∷ xs) none = absurd (true≢false none)

-- a history with one more allowed entry
legal_after : (rule : HandlerRule) (set : Setting) (seat : ℕ) (kind : EntryKind) (before after : List Entry) → IsLegal rule set before
    → after ≡ adding before seat kind → Allowed set (history set before) (entry_by seat kind)
    → IsAnsweredByRule rule set (history set before) kind → IsLegal rule set after
legal_after rule set seat kind before after legal is fits answered =
    subst (IsLegal rule set) (sym is) (legal-push rule set before (entry_by seat kind) legal (allow set (history set before) (entry_by seat kind) fits) answered)

legal_same : (rule : HandlerRule) (set : Setting) (before after : List Entry) → IsLegal rule set before → after ≡ before → IsLegal rule set after
legal_same rule set before after legal is = subst (IsLegal rule set) (sym is) legal

accepts_legal : {A F E : Type 0} (told : F → E) (refusal : Option E) (memory : E) (answers : A → Type 0) (rule : HandlerRule) (set : Setting) (seat : ℕ) (kind : EntryKind) (result : Result A F) (before after : List Entry)
    → IsLegal rule set before → (refusal ≡ None → Allowed set (history set before) (entry_by seat kind))
    → IsAnsweredByRule rule set (history set before) kind
    → Accepts told refusal memory answers (entry_by seat kind) result before after → IsLegal rule set after
accepts_legal told refusal memory answers rule set seat kind (Ok a) before after legal fits answered did =
    legal_after rule set seat kind before after legal did.adds (fits did.unrefused) answered
accepts_legal told refusal memory answers rule set seat kind (Err f) before after legal fits answered did =
    legal_same rule set before after legal did.kept

known : (count c : ℕ) → c < count → nat_le count c ≡ false
known count c below = lt-leb count c below

arrive_allowed : (set : Setting) (h : List Entry) (seat : ℕ) (p : Packet) → IsInputOpen set h seat → IsHeard set p → arrive_refusal set h p ≡ None
    → Allowed set (history set h) (entry_by seat (Arrive p))
arrive_allowed set h seat p input heard unrefused =
    let room : is_some (full_queue set (history set h) p) ≡ false =
    option_map-none _ _ (or_else-none _ _ unrefused).1 in
    record {
      seat = ap not (eq-eqb seat 0 input.feeder);
      input = input.not_ended;
      known = refl;
      started = refl;
      finished = refl;
      accepted = rw (heard.heard, heard.named, room) refl;
      something = refl;
    }

invoke_allowed : (set : Setting) (h : List Entry) (seat : ℕ) (name : CallName) (payload : List ℕ) (state : Memo) → CanInvoke set name payload
    → invoke_refusal set h name ≡ None → Allowed set (history set h) (entry_by seat (Invoke (request name payload) state))
invoke_allowed set h seat name payload state can unrefused =
    let a = or_else-none _ _ unrefused in
    let b = or_else-none _ _ a.1 in
    let d = or_else-none _ _ b.1 in
    let client : is_server set.role ≡ false = ap is_server can.client in
    let channel : not (has_id (channels_in set (history set h)) name.channel) ≡ false = refused_where-none _ _ b.0 in
    let method : is_none (method_named set name) ≡ false = refused_where-none _ _ d.0 in
    let live : is_some (live_call (history set h) name) ≡ false = option_map-none _ _ d.1 in
    record {
      seat = refl;
      input = refl;
      known = refl;
      started = refl;
      finished = refl;
      accepted = rw (client, can.named, can.short, channel, method, live) refl;
      something = refl;
    }

say_allowed : (set : Setting) (h : List Entry) (seat c : ℕ) (out : Out) → CanSay set h c out → say_refusal set h c out ≡ None
    → Allowed set (history set h) (entry_by seat (Say c out))
say_allowed set h seat c (Message payload) can unrefused =
    let a = or_else-none _ _ unrefused in
    let b = or_else-none _ _ a.1 in
    let d = or_else-none _ _ b.1 in
    let ended : has_end (history set h) c ≡ false = no_first (ends_of (history set h) c) (option_map-none _ _ b.0) in
    let stream : not (has_stream set.role (call_at (history set h) c)) ≡ false = refused_where-none _ _ d.0 in
    let done : (not (is_server set.role) && is_done (history set h) c) ≡ false = refused_where-none _ _ d.1 in
    record {
      seat = refl;
      input = refl;
      known = known _ _ can.there.below;
      started = refl;
      finished = refl;
      accepted = rw (can.short, ended, stream, done) refl;
      something = refl;
    }
say_allowed set h seat c (Begin session resource offset) can unrefused = record { seat = refl; input = refl; known = known _ _ can.there.below; started = refl; finished = refl; accepted = refused_where-none _ _ (or_else-none _ _ unrefused).1; something = refl }
say_allowed set h seat c (Append session bytes) can unrefused = record { seat = refl; input = refl; known = known _ _ can.there.below; started = refl; finished = refl; accepted = refused_where-none _ _ (or_else-none _ _ unrefused).1; something = refl }
say_allowed set h seat c (Commit session) can unrefused = record { seat = refl; input = refl; known = known _ _ can.there.below; started = refl; finished = refl; accepted = refused_where-none _ _ (or_else-none _ _ unrefused).1; something = refl }
say_allowed set h seat c (Leave session) can unrefused = record { seat = refl; input = refl; known = known _ _ can.there.below; started = refl; finished = refl; accepted = refused_where-none _ _ (or_else-none _ _ unrefused).1; something = refl }

done_allowed : (set : Setting) (h : List Entry) (seat c : ℕ) → CanComplete set h c → done_refusal set h c ≡ None
    → Allowed set (history set h) (entry_by seat (Done c))
done_allowed set h seat c can unrefused =
    let a = or_else-none _ _ unrefused in
    let b = or_else-none _ _ a.1 in
    let d = or_else-none _ _ b.1 in
    let ended : has_end (history set h) c ≡ false = no_first (ends_of (history set h) c) (option_map-none _ _ b.0) in
    let client : is_server set.role ≡ false = ap is_server can.client in
    let stream : is_unary_call (call_at (history set h) c) ≡ false = refused_where-none _ _ d.0 in
    let done : is_done (history set h) c ≡ false = refused_where-none _ _ d.1 in
    record {
      seat = refl;
      input = refl;
      known = known _ _ can.there.below;
      started = refl;
      finished = refl;
      accepted = rw (client, ended, stream, done) refl;
      something = refl;
    }

start_allowed : (set : Setting) (h : List Entry) (seat c : ℕ) → is_ready (history set h) c ≡ true
    → Allowed set (history set h) (entry_by seat (Start c))
start_allowed set h seat c ready =
    record {
      seat = refl;
      input = refl;
      known = known _ _ (ready_known set (reverse h) c ready);
      started = ap not ready;
      finished = refl;
      accepted = refl;
      something = refl;
    }

finish_allowed : (rule : HandlerRule) (set : Setting) (h : List Entry) (run : Run) (a : Answer) → IsLegal rule set h → IsRunning rule set h run
    → is_past_limits a ≡ false → Allowed set (history set h) (entry_by run.seat (Finish run.call a))
finish_allowed rule set h run a legal is limits =
    let on : is_for run.seat (runner_of (history set h) run.call) ≡ true = rw is.unfinished (eq-eqb run.seat run.seat refl) in
    record {
      seat = refl;
      input = refl;
      known = known _ _ (run_known set (reverse h) run.call run.seat legal.lawful.allowed is.unfinished);
      started = refl;
      finished = ap not on;
      accepted = limits;
      something = refl;
    }

finish_answered : (rule : HandlerRule) (set : Setting) (h : List Entry) (run : Run) (a : Answer) → IsRunning rule set h run → IsAnswerOf rule run a
    → IsAnsweredByRule rule set (history set h) (Finish run.call a)
finish_answered rule set h run a is given ruled m event state taken =
    let same_state : run.state ≡ m = cc (is.had ruled, state) in
    let same_event : run.event ≡ event = cc (is.took, taken) in
    given.by_rule ruled ∙ ap (λ x. rule.answer x run.event) same_state ∙ ap (rule.answer m) same_event

replace_allowed : (set : Setting) (h : List Entry) (seat c : ℕ) (state : Memo) → replace_refusal set h c ≡ None
    → Allowed set (history set h) (entry_by seat (Replace c state))
replace_allowed set h seat c state unrefused =
    let a = or_else-none _ _ unrefused in
    let b = or_else-none _ _ a.1 in
    record {
      seat = refl;
      input = refl;
      known = refused_where-none _ _ b.0;
      started = refl;
      finished = refl;
      accepted = no_first (ends_of (history set h) c) (option_map-none _ _ b.1);
      something = refl;
    }

cancel_allowed : (set : Setting) (h : List Entry) (seat c : ℕ) → IsCall set h c → is_cancelled (history set h) c ≡ false
    → Allowed set (history set h) (entry_by seat (Cancel c))
cancel_allowed set h seat c there uncancelled =
    record { seat = refl; input = refl; known = known _ _ there.below; started = refl; finished = refl; accepted = uncancelled; something = refl }

tick_allowed : (set : Setting) (h : List Entry) (seat now : ℕ) → seat ≡ 1 → Allowed set (history set h) (entry_by seat (Tick now))
tick_allowed set h seat now by =
    record { seat = ap not (eq-eqb seat 1 by); input = refl; known = refl; started = refl; finished = refl; accepted = refl; something = refl }

end_in_allowed : (set : Setting) (h : List Entry) (seat : ℕ) → IsInputOpen set h seat → Allowed set (history set h) (entry_by seat EndIn)
end_in_allowed set h seat input =
    record { seat = ap not (eq-eqb seat 0 input.feeder); input = input.not_ended; known = refl; started = refl; finished = refl; accepted = refl; something = refl }

flush_allowed : (set : Setting) (h : List Entry) (seat : ℕ) → seat ≡ 1 → flush_count (history set h) < length (items_sent (history set h))
    → halt_reason (history set h) ≡ None → Allowed set (history set h) (entry_by seat Flush)
flush_allowed set h seat by waits unhalted =
    record { seat = ap not (eq-eqb seat 1 by); input = refl; known = refl; started = refl; finished = refl; accepted = refl; something = rw (lt-leb _ _ waits, unhalted) refl }

unsettled : (why : Why) → CanHalt why → is_settled_reason why ≡ false
unsettled Settled can = absurd (can refl)
unsettled _ can = refl

halt_allowed : (set : Setting) (h : List Entry) (seat : ℕ) (why : Why) → CanHalt why → is_some (halt_reason (history set h)) ≡ false
    → Allowed set (history set h) (entry_by seat (Halt why))
halt_allowed set h seat why can unhalted =
    record { seat = refl; input = refl; known = refl; started = refl; finished = refl; accepted = rw (unhalted, unsettled why can) refl; something = refl }

close_allowed : (set : Setting) (h : List Entry) (seat channel : ℕ) → close_refusal set h channel ≡ None → Allowed set (history set h) (entry_by seat (Close channel))
close_allowed set h seat channel unrefused =
    record { seat = refl; input = refl; known = refl; started = refl; finished = refl; accepted = refused_where-none _ _ (or_else-none _ _ unrefused).1; something = refl }

start_legal : {R : Type 0} (rule : HandlerRule) (run_of : R → Run) (set : Setting) (seat : ℕ) (result : _) (before after : List Entry)
    → IsLegal rule set before → StartDid rule run_of set seat result before after → IsLegal rule set after
start_legal rule run_of set seat (Ok (Some r)) before after legal did =
    legal_after rule set seat _ before after legal did.begins.adds (start_allowed set before seat (run_of r).call did.chosen.ready) tt
start_legal rule run_of set seat (Ok None) before after legal did = legal_same rule set before after legal did.idle
start_legal rule run_of set seat (Err e) before after legal did = legal_same rule set before after legal did.kept

start_of_legal : {R : Type 0} (rule : HandlerRule) (run_of : R → Run) (set : Setting) (seat c : ℕ) (result : _) (before after : List Entry)
    → IsLegal rule set before → StartOfDid rule run_of set seat c result before after → IsLegal rule set after
start_of_legal rule run_of set seat c (Ok r) before after legal did =
    let ready : is_ready (history set before) c ≡ true = not-false _ (refused_where-none _ _ (or_else-none _ _ did.unrefused).1) in
    legal_after rule set seat _ before after legal did.begins.adds
    (start_allowed set before seat (run_of r).call (subst (λ k. is_ready (history set before) k ≡ true) (sym did.chosen) ready)) tt
start_of_legal rule run_of set seat c (Err e) before after legal did = legal_same rule set before after legal did.kept

cancel_legal : (rule : HandlerRule) (set : Setting) (seat c : ℕ) (before after : List Entry) → IsLegal rule set before → IsCall set before c
    → (b : Bool) → is_cancelled (history set before) c ≡ b → after ≡ (if b then before else adding before seat (Cancel c)) → IsLegal rule set after
cancel_legal rule set seat c before after legal there true is adds = legal_same rule set before after legal adds
cancel_legal rule set seat c before after legal there false is adds =
    legal_after rule set seat _ before after legal adds (cancel_allowed set before seat c there is) tt

flush_legal : (rule : HandlerRule) (set : Setting) (seat : ℕ) (result : _) (before after : List Entry) → IsLegal rule set before → seat ≡ 1
    → FlushDid set seat result before after → IsLegal rule set after
flush_legal rule set seat (Some item) before after legal by did =
    legal_after rule set seat _ before after legal did.adds (flush_allowed set before seat by (slice_get_within _ _ _ did.front) did.unhalted) tt
flush_legal rule set seat None before after legal by did = legal_same rule set before after legal did.kept

halt_legal : (rule : HandlerRule) (set : Setting) (seat : ℕ) (why : Why) (before after : List Entry) → IsLegal rule set before → CanHalt why
    → (b : Bool) → is_some (halt_reason (history set before)) ≡ b → after ≡ (if b then before else adding before seat (Halt why)) → IsLegal rule set after
halt_legal rule set seat why before after legal can true is adds = legal_same rule set before after legal adds
halt_legal rule set seat why before after legal can false is adds =
    legal_after rule set seat _ before after legal adds (halt_allowed set before seat why can is) tt

-- each call of a table keeps a legal history legal
pub keeps_legal : {H R : Type 0} → KeepsLegal H R
keeps_legal = record {
  arrive = λ rule set seat p result before after legal input heard did. accepts_legal _ _ _ _ rule set seat _ result before after legal (arrive_allowed set before seat p input heard) tt did;
  invoke = λ rule set seat name payload state result before after legal can did. accepts_legal _ _ _ _ rule set seat _ result before after legal (invoke_allowed set before seat name payload state can) tt did;
  say = λ rule set seat c out result before after legal can did. accepts_legal _ _ _ _ rule set seat _ result before after legal (say_allowed set before seat c out can) tt did;
  done = λ rule set seat c result before after legal can did. accepts_legal _ _ _ _ rule set seat _ result before after legal (done_allowed set before seat c can) tt did;
  start = λ rule run_of set seat result before after legal did. start_legal rule run_of set seat result before after legal did;
  start_of = λ rule run_of set seat c result before after legal did. start_of_legal rule run_of set seat c result before after legal did;
  finish = λ rule set run a handler result before after legal is given did. legal_after rule set run.seat _ before after legal did.adds (finish_allowed rule set before run a legal is given.limits) (finish_answered rule set before run a is given);
  replace = λ rule set seat c state result before after legal did. accepts_legal _ _ _ _ rule set seat _ result before after legal (replace_allowed set before seat c state) tt did;
  cancel = λ rule set seat c result before after legal there did. cancel_legal rule set seat c before after legal there (is_cancelled (history set before) c) refl did.adds;
  tick = λ rule set seat now result before after legal by did. accepts_legal _ _ _ _ rule set seat _ result before after legal (λ _. tick_allowed set before seat now by) tt did;
  end_in = λ rule set seat before after legal input did. legal_after rule set seat _ before after legal did.adds (end_in_allowed set before seat input) tt;
  flush_front = λ rule set seat result before after legal by did. flush_legal rule set seat result before after legal by did;
  halt = λ rule set seat why before after legal can did. halt_legal rule set seat why before after legal can (is_some (halt_reason (history set before))) refl did.adds;
  close_channel = λ rule set seat channel result before after legal did. accepts_legal _ _ _ _ rule set seat _ result before after legal (close_allowed set before seat channel) tt did;
}
