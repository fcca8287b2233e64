-- What an entry that ends and drops nothing leaves of the streams.
use Rattle.std.proofs.Common.{◌≡◌, ℕ, false, not, ◌||◌, List, ◌∷◌, filter, slice_get, Option, Some, None, option_and_then, if◌then◌else◌, refl, ap, ◌∙◌}
use Rattle.std.proofs.lemmas.List.{append-nil}
use Rattle.std.specs.List.{list_any}
use Rattle.rpc_channel.specs.Rising.{has_id}
use Rattle.rpc_packet.specs.declared.call_name.CallName.{CallName}
use Rattle.rpc_handlers.specs.declared.event.Event.{Event}
use Rattle.rpc_handlers.specs.declared.event.Memo.{Memo}
use Rattle.rpc_handlers.specs.HandlerRule.{HandlerRule}
use Rattle.rpc_ids.specs.declared.status.Status.{Status}
use Rattle.rpc_journal.specs.declared.entry.Entry.{Entry}
use Rattle.rpc_journal.specs.declared.item.Item.{Item}
use Rattle.rpc_journal.specs.declared.setting.Setting.{Setting}
use Rattle.rpc_journal.specs.Calls.{call_at, call_count, calls, ends_of, has_end, is_cancel_of, is_cancelled, last_call, live_call, of_call, opens_named}
use Rattle.rpc_journal.specs.Effect.{Deed, Opening}
use Rattle.rpc_journal.specs.Items.{is_for}
use Rattle.rpc_journal.specs.Kinds.{is_empty}
use Rattle.rpc_journal.specs.Queues.{is_completed, is_completion}
use Rattle.rpc_journal.specs.Rows.{channel_closed, channels_in, is_closed, no_effect}
use Rattle.rpc_journal.specs.States.{state_of}
use Rattle.history_laws.specs.rounds.Streams.{HasStream}

-- an entry that opens this call, puts these events and says these items
abbrev pub plain_deed : Entry → Option Opening → List (ℕ × Event) → List Item → Deed
plain_deed e opens puts says = record { entry = e; does = record no_effect { opens = opens; puts = puts; says = says } }

module _ (ds : List Deed) (e : Entry) (opens : Option Opening) (puts : List (ℕ × Event)) (says : List Item) where
  pub plain-ends_of : (c : ℕ) → ends_of (plain_deed e opens puts says ∷ ds) c ≡ ends_of ds c
  plain-ends_of c = append-nil (ends_of ds c)

  plain-live_call : (name : CallName) → opens_named name opens ≡ false → live_call (plain_deed e opens puts says ∷ ds) name ≡ live_call ds name
  plain-live_call name other =
      ap (λ b. option_and_then (λ c. if has_end (plain_deed e opens puts says ∷ ds) c then None else Some c) (if b then Some (call_count ds) else last_call ds name)) other
      ∙ at (last_call ds name)
    where
      at : (last : Option ℕ)
          → option_and_then (λ c. if has_end (plain_deed e opens puts says ∷ ds) c then None else Some c) last
          ≡ option_and_then (λ c. if has_end ds c then None else Some c) last
      at None = refl
      at (Some c) = ap (λ (es : List Status). if not (is_empty es) then None else Some c) (append-nil (ends_of ds c))

  pub plain-channels : (set : Setting) → channel_closed e.kind ≡ None → channels_in set (plain_deed e opens puts says ∷ ds) ≡ channels_in set ds
  plain-channels set closes = ap (λ x. filter (λ channel. not (is_for channel x || is_closed ds channel)) set.channels) closes

  -- a stream goes on, with the state that the entry leads to
  pub plain_stream : (rule : HandlerRule) (set : Setting) (c : ℕ) (o : Opening) (m next : Memo) → HasStream rule set ds c o m
      → call_at (plain_deed e opens puts says ∷ ds) c ≡ call_at ds c → opens_named o.name opens ≡ false
      → channel_closed e.kind ≡ None → is_cancel_of c e.kind ≡ false → list_any is_completion (of_call c puts) ≡ false
      → state_of rule set (plain_deed e opens puts says ∷ ds) c ≡ Some next → HasStream rule set (plain_deed e opens puts says ∷ ds) c o next
  plain_stream rule set c o m next stream there other closes cancels completes state = record {
    opened = there ∙ stream.opened;
    live = plain-live_call o.name other ∙ stream.live;
    known = stream.known;
    channel = ap (λ ids. has_id ids o.name.channel) (plain-channels set closes) ∙ stream.channel;
    hears = stream.hears;
    unended = plain-ends_of c ∙ stream.unended;
    uncancelled = ap (λ b. b || is_cancelled ds c) cancels ∙ stream.uncancelled;
    uncompleted = ap (λ b. b || is_completed ds c) completes ∙ stream.uncompleted;
    state = state;
  }

-- an entry that opens nothing keeps each call where it is
pub plain-call_at : (ds : List Deed) (e : Entry) (puts : List (ℕ × Event)) (says : List Item) (c : ℕ) → call_at (plain_deed e None puts says ∷ ds) c ≡ call_at ds c
plain-call_at ds e puts says c = ap (λ os. slice_get os c) (append-nil (calls ds))
