-- A call of a client that was opened takes messages, and then the end of its stream, until it has an end itself.
use Rattle.std.specs.Prelude.{◌≡◌, ℕ, true, false, List, [], Some, None}
use Rattle.rpc_ids.specs.declared.method.MethodRef.{MethodRef}
use Rattle.rpc_packet.specs.declared.owned.Packet.{Packet}
use Rattle.rpc_handlers.specs.declared.answer.Out.{Out}
use Rattle.rpc_handlers.specs.declared.answer.Out.TheVariants.{Say as Message}
use Rattle.rpc_handlers.specs.declared.event.Memo.{Memo}
use Rattle.rpc_journal.specs.declared.entry.Entry.{Entry}
use Rattle.rpc_journal.specs.declared.entry.EntryKind.TheVariants.{Invoke, Say}
use Rattle.rpc_journal.specs.declared.setting.Setting.{Setting}
use Rattle.rpc_journal.specs.Calls.{call_at, call_count, ends_of}
use Rattle.rpc_journal.specs.Effect.{Deed, Opening}
use Rattle.rpc_journal.specs.History.{adding, history}
use Rattle.rpc_journal.specs.Items.{is_completion_type, is_done}
use Rattle.rpc_journal.specs.Kinds.{is_unary, streams_out}
use Rattle.rpc_journal.specs.Refusals.{done_refusal, is_full, out_refusal}
use Rattle.rpc_journal.specs.Rows.{method_named}

-- c opened so, has no end, and its stream isn't completed
pub record IsSpeaking (ds : List Deed) (c : ℕ) (o : Opening) : Type 0 where
  pub there : call_at ds c ≡ Some o
  pub unended : ends_of ds c ≡ []
  pub undone : is_done ds c ≡ false

abbrev pub opening_by : Packet → MethodRef → Memo → Opening
opening_by p m memo = record { name = p.name; method = m; given = Some memo }

-- the client opens a call of a method that it knows
abbrev pub OpenedSpeaks : Type 0
OpenedSpeaks =
    (set : Setting) (h : List Entry) (seat : ℕ) (p : Packet) (memo : Memo) (m : MethodRef) → method_named set p.name ≡ Some m
    → is_completion_type p.ptype ≡ false
    → IsSpeaking (history set (adding h seat (Invoke p memo))) (call_count (history set h)) (opening_by p m memo)

-- the call has said something
abbrev pub SaidSpeaks : Type 0
SaidSpeaks =
    (set : Setting) (h : List Entry) (seat c : ℕ) (o : Opening) (out : Out) → IsSpeaking (history set h) c o
    → IsSpeaking (history set (adding h seat (Say c out))) c o

-- where its method has a stream in this direction, a message isn't refused
abbrev pub MessagesAreTaken : Type 0
MessagesAreTaken =
    (set : Setting) (ds : List Deed) (c : ℕ) (o : Opening) (payload : List ℕ) → IsSpeaking ds c o → streams_out set.role o.method.kind ≡ true
    → out_refusal set ds c (Message payload) ≡ None

-- where its method isn't unary and the journal has room, the end of its stream isn't refused
abbrev pub DoneIsTaken : Type 0
DoneIsTaken =
    (set : Setting) (h : List Entry) (c : ℕ) (o : Opening) → is_full h ≡ false → IsSpeaking (history set h) c o → is_unary o.method.kind ≡ false
    → done_refusal set h c ≡ None
