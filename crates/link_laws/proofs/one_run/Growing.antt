-- The parts of a turn add entries, and of packets only those that come in it arrive.
use Rattle.std.proofs.Common.{◌≡◌, ℕ, zero, suc, Bool, true, false, List, [], ◌∷◌, ◌++◌, Option, Some, None, is_none, if◌then◌else◌, refl, ap, sym, ◌∙◌, subst, append_assoc}
use Rattle.std.specs.List.{AllByRecursion}
use Rattle.std.proofs.lemmas.List.{append-nil}
use mathlib.Core.List.{IsPrefix}
use Rattle.rpc_packet.specs.declared.owned.Packet.{Packet}
use Rattle.rpc_handlers.specs.declared.answer.Out.{Out}
use Rattle.rpc_handlers.specs.HandlerRule.{HandlerRule}
use Rattle.rpc_journal.specs.declared.entry.Entry.{Entry}
use Rattle.rpc_journal.specs.declared.entry.EntryKind.{EntryKind}
use Rattle.rpc_journal.specs.declared.entry.EntryKind.TheVariants.{Arrive, Start, Finish, Flush, Say}
use Rattle.rpc_journal.specs.declared.setting.Setting.{Setting}
use Rattle.rpc_journal.specs.History.{adding, entry_by, history}
use Rattle.rpc_journal.specs.Items.{arrival_of, arrivals}
use Rattle.rpc_journal.specs.Refusals.{out_refusal}
use Rattle.rpc_schedule.specs.Schedule.{Ran, Settles, Stage, Turn, Turns, flush_seat, input_seat, run_seat}
use Rattle.rpc_schedule.specs.Schedule.Stage.{running, flushing}
use Rattle.rpc_schedule.proofs.EntryLemmas.{arrivals-push}
use Rattle.rpc_schedule.proofs.ScheduleLemmas.{entries_of}
use Rattle.link_laws.specs.world.Client.{ClientSettles, ClientTakes, FlushesTo, RunsTo, all_said_in, said_in, task_said, task_says}
use Rattle.link_laws.specs.world.Setup.{quiet_rule}
use Rattle.link_laws.specs.world.Starts.{all_added}
use Rattle.link_laws.specs.world.Hearing.{ServerTakes}
use Rattle.link_laws.specs.world.World.{Tasked}

-- the entries go on, and just these packets have arrived
pub record GoesOnWith (before : List Entry) (packets : List Packet) (after : List Entry) : Type 0 where
  pub more : List Entry
  pub is : after ≡ before ++ more
  pub arrived : arrivals after ≡ arrivals before ++ packets

pub begins : (before : List Entry) (packets : List Packet) (after : List Entry) → GoesOnWith before packets after → IsPrefix before after
begins before packets after on = (on.more, sym on.is)

pub goes_same : (before after : List Entry) → after ≡ before → GoesOnWith before [] after
goes_same before after same = record { more = []; is = same ∙ sym (append-nil before); arrived = ap arrivals same ∙ sym (append-nil (arrivals before)) }

pub goes_then : (a b c : List Entry) (ps qs : List Packet) → GoesOnWith a ps b → GoesOnWith b qs c → GoesOnWith a (ps ++ qs) c
goes_then a b c ps qs first next = record {
  more = first.more ++ next.more;
  is = next.is ∙ (ap (λ front. front ++ next.more) first.is ∙ append_assoc a first.more next.more);
  arrived = next.arrived ∙ (ap (λ front. front ++ qs) first.arrived ∙ append_assoc (arrivals a) ps qs);
}

pub goes_adding : (h : List Entry) (seat : ℕ) (kind : EntryKind) → GoesOnWith h (arrival_of kind) (adding h seat kind)
goes_adding h seat kind = record { more = entry_by seat kind ∷ []; is = refl; arrived = arrivals-push h (entry_by seat kind) }

-- a part that is known to add an entry of this kind
goes_as : (h : List Entry) (seat : ℕ) (kind : EntryKind) (after : List Entry) → after ≡ adding h seat kind → GoesOnWith h (arrival_of kind) after
goes_as h seat kind after adds = subst (GoesOnWith h (arrival_of kind)) (sym adds) (goes_adding h seat kind)

ran_goes : (rule : HandlerRule) (set : Setting) (h after : List Entry) → Ran rule set h after → GoesOnWith h [] after
ran_goes rule set h after ran =
    let begun : List Entry = adding h run_seat (Start ran.call) in
    goes_then h begun after [] [] (goes_adding h run_seat (Start ran.call)) (goes_as begun run_seat (Finish ran.call ran.answer) after ran.adds)

pub runs_go : (rule : HandlerRule) (set : Setting) (n : ℕ) (h after : List Entry) → RunsTo rule set n h after → GoesOnWith h [] after
runs_go rule set zero h after same = goes_same h after same
runs_go rule set (suc n) h after runs =
    goes_then h runs.0 after [] [] (ran_goes rule set h runs.0 runs.1) (runs_go rule set n runs.0 after runs.2)

pub flushes_go : (set : Setting) (n : ℕ) (h after : List Entry) → FlushesTo set n h after → GoesOnWith h [] after
flushes_go set zero h after same = goes_same h after same
flushes_go set (suc n) h after flushes =
    goes_then h flushes.0 after [] [] (goes_as h flush_seat Flush flushes.0 flushes.1.adds) (flushes_go set n flushes.0 after flushes.2)

module _ (rule : HandlerRule) (set : Setting) where
  turn_goes : (a b : Stage) → Turn rule set a b → GoesOnWith (entries_of a) [] (entries_of b)
  turn_goes (running h) (running now) ran = ran_goes rule set h now ran
  turn_goes (running h) (flushing now) turn = goes_same h now turn.1
  turn_goes (flushing h) (flushing now) flushed = goes_as h flush_seat Flush now flushed.adds
  turn_goes (flushing h) (running now) turn = goes_same h now turn.2

  turns_go : (n : ℕ) (a b : Stage) → Turns rule set n a b → GoesOnWith (entries_of a) [] (entries_of b)
  turns_go zero a b same = goes_same (entries_of a) (entries_of b) (ap entries_of (sym same))
  turns_go (suc n) a b turns =
      goes_then (entries_of a) (entries_of turns.0) (entries_of b) [] [] (turn_goes a turns.0 turns.1) (turns_go n turns.0 b turns.2)

  pub settles_goes : (h after : List Entry) → Settles rule set h after → GoesOnWith h [] after
  settles_goes h after settles = turns_go settles.reaches.0 (running h) (flushing after) settles.reaches.1

  -- an entry, and the settling behind it
  pub opened_goes : (h : List Entry) (seat : ℕ) (kind : EntryKind) (after : List Entry) → Settles rule set (adding h seat kind) after
      → GoesOnWith h (arrival_of kind ++ []) after
  opened_goes h seat kind after settles =
      goes_then h (adding h seat kind) after (arrival_of kind) [] (goes_adding h seat kind) (settles_goes (adding h seat kind) after settles)

  pub server_takes_goes : (ps : List Packet) (h after : List Entry) → ServerTakes rule set ps h after → GoesOnWith h ps after
  server_takes_goes [] h after same = goes_same h after same
  server_takes_goes (p ∷ ps) h after takes =
      goes_then h takes.0 after (p ∷ []) ps (opened_goes h input_seat (Arrive p) takes.0 takes.1) (server_takes_goes ps takes.0 after takes.2)

said_goes : (set : Setting) (c : ℕ) (h : List Entry) (out : Out) → GoesOnWith h [] (said_in set c h out)
said_goes set c h out = at (is_none (out_refusal set (history set h) c out))
  where
    at : (b : Bool) → GoesOnWith h [] (if b then adding h run_seat (Say c out) else h)
    at true = goes_adding h run_seat (Say c out)
    at false = goes_same h h refl

all_said_go : (set : Setting) (c : ℕ) (outs : List Out) (h : List Entry) → GoesOnWith h [] (all_said_in set c outs h)
all_said_go set c [] h = goes_same h h refl
all_said_go set c (out ∷ outs) h =
    goes_then h (said_in set c h out) (all_said_in set c outs (said_in set c h out)) [] [] (said_goes set c h out) (all_said_go set c outs (said_in set c h out))

task_said_goes : (set : Setting) (now : ℕ) (before ran : List Entry) (task : Option Tasked) → GoesOnWith ran [] (task_said set now before ran task)
task_said_goes set now before ran None = goes_same ran ran refl
task_said_goes set now before ran (Some t) = all_said_go set t.call (task_says set now before ran t) ran

module _ (set : Setting) (now : ℕ) where
  pub client_settles_goes : (before : List Entry) (task : Option Tasked) (after : List Entry) (next : Option Tasked)
      → ClientSettles set now before task after next → GoesOnWith before [] after
  client_settles_goes before task after next s =
      let said : List Entry = task_said set now before s.ran task in
      goes_then before s.ran after [] [] (runs_go quiet_rule set s.run_count before s.ran s.runs)
      (goes_then s.ran said after [] [] (task_said_goes set now before s.ran task) (flushes_go set s.flush_count said after s.flushes))

  -- an entry, and the client's work behind it
  pub client_opened_goes : (h : List Entry) (seat : ℕ) (kind : EntryKind) (task : Option Tasked) (after : List Entry) (next : Option Tasked)
      → ClientSettles set now (adding h seat kind) task after next → GoesOnWith h (arrival_of kind ++ []) after
  client_opened_goes h seat kind task after next settles =
      goes_then h (adding h seat kind) after (arrival_of kind) [] (goes_adding h seat kind)
      (client_settles_goes (adding h seat kind) task after next settles)

  pub client_takes_goes : (ps : List Packet) (h : List Entry) (task : Option Tasked) (after : List Entry) (next : Option Tasked)
      → ClientTakes set now ps h task after next → GoesOnWith h ps after
  client_takes_goes [] h task after next takes = goes_same h after takes.0
  client_takes_goes (p ∷ ps) h task after next takes =
      goes_then h takes.0 after (p ∷ []) ps (client_opened_goes h input_seat (Arrive p) task takes.0 takes.1 takes.2)
      (client_takes_goes ps takes.0 takes.1 after next takes.3)

-- none of these is an arrival
abbrev pub AreQuiet : List EntryKind → Type 0
AreQuiet kinds = AllByRecursion (λ kind. arrival_of kind ≡ []) kinds

pub all_added_go : (kinds : List EntryKind) (h : List Entry) → AreQuiet kinds → GoesOnWith h [] (all_added kinds h)
all_added_go [] h quiet = goes_same h h refl
all_added_go (kind ∷ kinds) h quiet =
    goes_then h (adding h run_seat kind) (all_added kinds (adding h run_seat kind)) [] []
    (subst (λ ps. GoesOnWith h ps (adding h run_seat kind)) quiet.0 (goes_adding h run_seat kind))
    (all_added_go kinds (adding h run_seat kind) quiet.1)
