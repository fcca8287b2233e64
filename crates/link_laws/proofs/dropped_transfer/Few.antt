-- A session says little to a Tick, and nothing that begins one. One that has settled tells its end at most.
use Rattle.std.proofs.Common.{◌≡◌, ◌⊎◌, inl, inr, ℕ, ◌+◌, ◌≤◌, ◌==◌, nat_le, nat_lt, Bool, true, false, if◌then◌else◌, List, [], ◌∷◌, ◌++◌, length, flat_map, Option, Some, None, refl, ap, sym, subst, suc, arith, length-append}
use Rattle.std.proofs.lemmas.List.{length-map}
use Rattle.rpc_ids.specs.declared.status.Status.{Status}
use Rattle.rpc_ids.specs.declared.status.Status.TheVariants.{DeadlineExceeded, Okay}
use Rattle.rpc_ids.specs.declared.method.Role.{Role}
use Rattle.rpc_packet.specs.declared.call_name.CallName.{CallName}
use Rattle.rpc_handlers.specs.declared.answer.Out.{Out}
use Rattle.rpc_handlers.specs.declared.answer.Out.TheVariants.{Say, Begin, Append, Commit, Leave}
use Rattle.rpc_journal.specs.Entries.{answer_item}
use Rattle.transfer_base.specs.declared.limits.TheConstants.{TIMEOUT}
use Rattle.transfer_receiver.specs.declared.answers.Ticked.{Ticked}
use Rattle.transfer_receiver.specs.declared.answers.Ticked.TheVariants.{Quiet, Resend, ResendEnd, Over}
use Rattle.transfer_receiver.specs.declared.phase.Phase.{Phase}
use Rattle.transfer_receiver.specs.declared.phase.Phase.TheVariants.{Completing}
use Rattle.transfer_receiver.specs.declared.receiver.TheConstants.{MAX_RESENDS}
use Rattle.transfer_receiver.specs.Phase.{is_open}
use Rattle.transfer_receiver.specs.PieceRules.{active_at}
use Rattle.transfer_receiver.specs.Receiver.{Receiver}
use Rattle.transfer_receiver.specs.TickRules.{TickOutcome, giving_up, staying as no_timeout, tick_outcome, timeout_outcome}
use Rattle.transfer_sender.specs.declared.sender.TheConstants.{MAX_TIMEOUTS}
use Rattle.transfer_sender.specs.Sender.{ticked}
use Rattle.transfer_words.specs.Saying.{Saying, Stepped, says, outs_of}
use Rattle.transfer_words.specs.Word.{completion}
use Rattle.transfer_words.specs.CoreAnswers.{of_tick, of_timeout}
use Rattle.transfer_resume.specs.declared.side.Side.{Side}
use Rattle.transfer_resume.specs.declared.side.Side.TheVariants.{Read, Write}
use Rattle.transfer_resume.specs.declared.stage.Opening.{Opening}
use Rattle.transfer_resume.specs.declared.stage.Stage.{Stage}
use Rattle.transfer_resume.specs.declared.stage.Stage.TheVariants as stage
use Rattle.transfer_resume.specs.Opening.{leaving}
use Rattle.transfer_resume.specs.Book.{in_session, row_says, spelled, spelled_all}
use Rattle.transfer_resume.specs.Receiver.{receiving_or_over}
use Rattle.transfer_resume.specs.Session.{Row, staying}
use Rattle.transfer_resume.specs.Ticks.{stage_ticks}
use Rattle.transfer_laws.specs.losses.Drops.{session_ticks}
use Rattle.transfer_laws.specs.losses.Survives.{HasSettled}
use Rattle.link_laws.proofs.lossless_transfer.ServiceWords.{NoStarts}
use Rattle.link_laws.specs.dropped_transfer.Sessions.{AreSettled}

pub record Little (ss : List Saying) : Type 0 where
  pub few : length ss ≤ 2
  pub no_starts : NoStarts ss

timeout_little : (o : Option Status) → Little (of_timeout o)
timeout_little None = record { few = omega arith; no_starts = tt }
timeout_little (Some status) = record { few = omega arith; no_starts = (tt, tt) }

tick_little : (going : Bool) (answer : Ticked) → Little (of_tick going answer)
tick_little going Quiet = record { few = omega arith; no_starts = tt }
tick_little going (Resend ask) = record { few = omega arith; no_starts = (tt, tt) }
tick_little going (ResendEnd status) = record { few = omega arith; no_starts = (tt, tt) }
tick_little true (Over status) = record { few = omega arith; no_starts = (tt, (tt, tt)) }
tick_little false (Over status) = record { few = omega arith; no_starts = tt }

abbrev opening_by : Side → ℕ → Opening → Bool → Stepped Stage
opening_by side now o last =
    if last then record { after = stage.Ended DeadlineExceeded; sayings = leaving side ++ says (completion DeadlineExceeded) ∷ [] }
    else staying (stage.Opening (record o { active = now; timeouts = o.timeouts + 1 }))

opening_little : (side : Side) (now : ℕ) (o : Opening) (late last : Bool)
    → Little (if late then opening_by side now o last else staying (stage.Opening o)).sayings
opening_little side now o false last = record { few = omega arith; no_starts = tt }
opening_little side now o true false = record { few = omega arith; no_starts = tt }
opening_little Read now o true true = record { few = omega arith; no_starts = (tt, tt) }
opening_little Write now o true true = record { few = omega arith; no_starts = (tt, (tt, tt)) }

stage_little : (side : Side) (now : ℕ) (s : Stage) → Little (stage_ticks side now s).sayings
stage_little side now (stage.Opening o) = opening_little side now o (nat_le (o.active + TIMEOUT) now) (o.timeouts + 1 == MAX_TIMEOUTS)
stage_little side now (stage.Sending s) = timeout_little (ticked s now).ended
stage_little side now (stage.Receiving r) = tick_little (is_open r.phase) (tick_outcome r now).answer
stage_little side now (stage.Ended status) = record { few = omega arith; no_starts = tt }

pub session_little : (side : Side) (now : ℕ) (s : Option Stage) → Little (session_ticks side now s).sayings
session_little side now None = record { few = omega arith; no_starts = tt }
session_little side now (Some s) = stage_little side now s

-- as items of a call
pub items_few : (role : Role) (c : ℕ) (name : CallName) (go : Bool) (outs : List Out) → length (flat_map (answer_item role c name go) outs) ≤ length outs
items_few role c name go [] = omega arith
items_few role c name true (Say payload ∷ outs) = omega (arith, items_few role c name true outs)
items_few role c name false (Say payload ∷ outs) = omega (arith, items_few role c name false outs)
items_few role c name go (Begin a b d ∷ outs) = omega (arith, items_few role c name go outs)
items_few role c name go (Append a b ∷ outs) = omega (arith, items_few role c name go outs)
items_few role c name go (Commit a ∷ outs) = omega (arith, items_few role c name go outs)
items_few role c name go (Leave a ∷ outs) = omega (arith, items_few role c name go outs)

pub outs_many : (session : ℕ) (ss : List Saying) → length (outs_of session ss) ≡ length ss
outs_many session [] = refl
outs_many session (s ∷ ss) = ap suc (outs_many session ss)

-- A SESSION THAT HAS SETTLED stays so, and says nothing or that it has ended OK
abbrev pub TellsEnd : List Saying → Type 0
TellsEnd ss = (ss ≡ []) ⊎ (ss ≡ says (completion Okay) ∷ [])

pub record StaysSettled (step : Stepped Stage) : Type 0 where
  pub after : HasSettled step.after
  pub tells : TellsEnd step.sayings

abbrev by_tick : Bool → TickOutcome → Stepped Stage
by_tick going o = record { after = receiving_or_over o.after o.answer; sayings = of_tick going o.answer }

-- a receiver that has told its end tells it again, or gives up in silence
abbrev ending_again : ℕ → Receiver → Bool → TickOutcome
ending_again now r few =
    if few then record { after = record (active_at now r) { resends = r.resends + 1 }; answer = ResendEnd Okay } else giving_up (active_at now r) Okay

ending_settled : (now : ℕ) (r : Receiver) (late few : Bool) → r.phase ≡ Completing Okay → StaysSettled (by_tick false (if late then ending_again now r few else no_timeout r))
ending_settled now r false few settled = record { after = settled; tells = inl refl }
ending_settled now r true true settled = record { after = settled; tells = inr refl }
ending_settled now r true false settled = record { after = tt; tells = inl refl }

pub settled_ticks : (side : Side) (now : ℕ) (s : Stage) → HasSettled s → StaysSettled (stage_ticks side now s)
settled_ticks side now (stage.Opening o) settled = absurd settled
settled_ticks side now (stage.Sending s) settled = absurd settled
settled_ticks side now (stage.Receiving r) settled =
    subst (λ (p : Phase). StaysSettled (by_tick (is_open p) (if nat_le (r.active + TIMEOUT) now then timeout_outcome (active_at now r) p else no_timeout r))) (sym settled)
    (ending_settled now r (nat_le (r.active + TIMEOUT) now) (nat_lt r.resends MAX_RESENDS) settled)
settled_ticks side now (stage.Ended status) settled = record { after = tt; tells = inl refl }

-- what sessions say to a Tick, as items of an answer
abbrev pub outs_at : Side → ℕ → List Row → List Out
outs_at side now rows = spelled_all (flat_map (row_says (stage_ticks side now)) rows)

end_few : (ss : List Saying) → TellsEnd ss → length ss ≤ 1
end_few ss (inl none) = omega (arith, ap length none)
end_few ss (inr one) = omega (arith, ap length one)

said_many : (id : ℕ) (ss : List Saying) → length (in_session id ss) ≡ length ss
said_many id [] = refl
said_many id (s ∷ ss) = ap suc (said_many id ss)

-- sessions that have settled say no more than one thing each
pub outs_few : (side : Side) (now : ℕ) (rows : List Row) → AreSettled rows → length (outs_at side now rows) ≤ length rows
outs_few side now rows settled = omega (arith, length-map (flat_map (row_says (stage_ticks side now)) rows) spelled, says_few rows settled)
  where
    says_few : (rs : List Row) → AreSettled rs → length (flat_map (row_says (stage_ticks side now)) rs) ≤ length rs
    says_few [] all = omega arith
    says_few (r ∷ rs) all =
        omega (
          arith,
          length-append (row_says (stage_ticks side now) r) (flat_map (row_says (stage_ticks side now)) rs),
          said_many r.id (stage_ticks side now r.stage).sayings,
          end_few (stage_ticks side now r.stage).sayings (settled_ticks side now r.stage all.0).tells,
          says_few rs all.1,
        )
