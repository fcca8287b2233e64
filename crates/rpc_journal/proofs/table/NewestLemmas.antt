-- How the newest call of each name follows its history.
use Rattle.std.proofs.Common.{◌≡◌, ℕ, ◌<◌, List, ◌∷◌, slice_get, Some, None, is_some, if◌then◌else◌, refl, ap, sym, ◌∙◌, subst, arith}
use Rattle.rpc_packet.specs.declared.call_name.CallName.{CallName}
use Rattle.rpc_journal.specs.declared.table.call_state.CallState.{CallState}
use Rattle.rpc_journal.specs.Calls.{call_count, live_call, same_name}
use Rattle.rpc_journal.specs.Effect.{Opening, Deed}
use Rattle.rpc_journal.specs.table.Newest.{AreNewest, IsNamed, Numbers, newest_of}
use Rattle.rpc_journal.specs.table.Agrees.{AgreesOnCalls}
use Rattle.rpc_journal.proofs.EndLemmas.{AllKnown, last_known}
use Rattle.rpc_journal.proofs.PlaceLemmas.{get_none}
use Rattle.rpc_journal.proofs.table.TableLemmas.{ended_is}

-- an entry that opens no call
pub newest_kept : (ds : List Deed) (d : Deed) (m n : Numbers) → AreNewest ds m → d.does.opens ≡ None → n ≡ m → AreNewest (d ∷ ds) n
newest_kept ds d m n are unopened same = λ name. rw (unopened, same) (are name)

-- an entry that opens a call of this name
pub newest_opened : (ds : List Deed) (d : Deed) (o : Opening) (name : CallName) (c : ℕ) (m n : Numbers) → AreNewest ds m → d.does.opens ≡ Some o
    → name ≡ o.name → c ≡ call_count ds → IsNamed name c m n → AreNewest (d ∷ ds) n
newest_opened ds d o name c m n are opens is next named = λ other.
    let its : IsNamed o.name (call_count ds) m n = subst (λ k. IsNamed o.name k m n) next (subst (λ k. IsNamed k c m n) is named) in
    rw opens (its other ∙ ap (λ last. if same_name o.name other then Some (call_count ds) else last) (are other))

-- the newest call of a name is live where it has no end
pub live_at : (ds : List Deed) (m : Numbers) (states : List CallState) (name : CallName) (c : ℕ) (r : CallState) → AreNewest ds m → AgreesOnCalls ds states
    → newest_of m name ≡ Some c → slice_get states c ≡ Some r → live_call ds name ≡ (if is_some r.status then None else Some c)
live_at ds m states name c r are agrees newest there = rw (sym (are name) ∙ newest, ended_is ds c r (agrees.each c r there)) refl

-- the newest call of a name has a state
pub newest_there : {A : Type 0} (ds : List Deed) (m : Numbers) (states : List CallState) (name : CallName) (c : ℕ) → AreNewest ds m → AgreesOnCalls ds states
    → newest_of m name ≡ Some c → slice_get states c ≡ None → A
newest_there ds m states name c are agrees newest none =
    let below : c < call_count ds = subst (AllKnown ds) (sym (are name) ∙ newest) (last_known ds name) in
    absurd (omega (arith, below, agrees.many, get_none states c none))
