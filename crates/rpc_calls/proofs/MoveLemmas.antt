-- The call that a move names is live.
use Rattle.std.proofs.Common.{ℕ, ◌<◌, ◌^◌, List, length, is_some, ap, ◌∙◌, arith}
use Rattle.rpc_journal.specs.declared.table.arrival_move.Move.{Move}
use Rattle.rpc_journal.specs.declared.table.arrival_move.Move.TheVariants.{Drop, Reply, Close, Open, OpenAnew, Queue, Complete, Stray, End, Refuse, Answer}
use Rattle.rpc_journal.specs.declared.table.call_state.CallState.{CallState}
use Rattle.rpc_journal.specs.Effect.{Deed}
use Rattle.rpc_journal.specs.table.Moves.{IsOpenMove}
use Rattle.rpc_journal.specs.table.Agrees.{IsOpenAt, AgreesOnCalls}
use Rattle.rpc_journal.proofs.PlaceLemmas.{get_some}
use Rattle.rpc_journal.proofs.table.TableLemmas.{ended_is}
use Rattle.rpc_calls.specs.Arrivals.{IsLiveCall, IsLiveMove}

live_call : (ds : List Deed) (states : List CallState) (c : ℕ) → AgreesOnCalls ds states → length states < 2 ^ 32 → IsOpenAt states c → IsLiveCall ds c
live_call ds states c agrees few is =
    let row = get_some states c is.within in
    record {
      below = omega (arith, is.within, agrees.many);
      small = omega (arith, is.within, few);
      live = ended_is ds c row.0 (agrees.each c row.0 row.1) ∙ ap is_some (is.unended row.0 row.1);
    }

pub live_move : (ds : List Deed) (states : List CallState) (m : Move) → AgreesOnCalls ds states → length states < 2 ^ 32 → IsOpenMove states m → IsLiveMove ds m
live_move ds states Drop agrees few is = tt
live_move ds states (Reply s) agrees few is = tt
live_move ds states (Close c s) agrees few is = live_call ds states c agrees few is
live_move ds states (Open m) agrees few is = tt
live_move ds states (OpenAnew m c) agrees few is = live_call ds states c agrees few is
live_move ds states (Queue c) agrees few is = live_call ds states c agrees few is
live_move ds states (Complete c) agrees few is = live_call ds states c agrees few is
live_move ds states Stray agrees few is = tt
live_move ds states (End c s) agrees few is = live_call ds states c agrees few is
live_move ds states (Refuse c) agrees few is = live_call ds states c agrees few is
live_move ds states (Answer c s) agrees few is = live_call ds states c agrees few is
