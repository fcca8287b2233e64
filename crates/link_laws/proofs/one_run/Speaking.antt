-- A call of the client that was just opened takes messages, and then the end of its stream.
use Rattle.std.proofs.Common.{◌≡◌, ℕ, Bool, true, false, not, ◌==◌, List, [], ◌∷◌, reverse, slice_get, refl, ap, sym, ◌∙◌, subst, arith}
use Rattle.std.specs.List.{list_any}
use Rattle.std.proofs.lemmas.Bool.{true≢false, or_from, and_right}
use Rattle.std.proofs.lemmas.List.{append-nil}
use Rattle.std.proofs.lemmas.List.Folds.{list_any-append}
use Rattle.rpc_ids.specs.declared.method.Role.{Role}
use Rattle.rpc_ids.specs.declared.method.Role.TheVariants.{Server, Client}
use Rattle.rpc_packet.specs.declared.call_name.CallName.{CallName}
use Rattle.rpc_handlers.specs.declared.answer.Out.{Out}
use Rattle.rpc_handlers.specs.declared.answer.Out.TheVariants.{Say as Message, Begin, Append, Commit, Leave}
use Rattle.rpc_journal.specs.declared.entry.Entry.{Entry}
use Rattle.rpc_journal.specs.declared.entry.EntryKind.TheVariants.{Invoke, Say}
use Rattle.rpc_journal.specs.declared.setting.Setting.{Setting}
use Rattle.rpc_journal.specs.Calls.{call_count, calls, ends_of, has_end}
use Rattle.rpc_journal.specs.Effect.{Deed, Opening}
use Rattle.rpc_journal.specs.Entries.{invoke_effect, out_item, with_call}
use Rattle.rpc_journal.specs.History.{entry_by, history}
use Rattle.rpc_journal.specs.declared.item.Item.{Item}
use Rattle.rpc_journal.specs.Items.{is_completion_type, items_sent}
use Rattle.rpc_journal.specs.Kinds.{is_empty, is_server}
use Rattle.rpc_journal.specs.Rows.{packet_item, says_item}
use Rattle.rpc_journal.proofs.EndLemmas.{ended_known}
use Rattle.rpc_journal.proofs.PlaceLemmas.{get_last}
use Rattle.rpc_journal.proofs.Push.{history-push}
use Rattle.link_laws.specs.one_run.Speaking.{DoneIsTaken, IsSpeaking, MessagesAreTaken, OpenedSpeaks, SaidSpeaks, opening_by}
use Rattle.link_laws.proofs.one_run.Unknown.{completes, undone}

no_end : (ds : List Deed) (c : ℕ) → has_end ds c ≡ false → ends_of ds c ≡ []
no_end ds c none = at (ends_of ds c) none
  where
    at : {A : Type 0} (xs : List A) → not (is_empty xs) ≡ false → xs ≡ []
    at [] is = refl
    at (x ∷ xs) is = absurd (true≢false is)

-- no call beyond those that are there has an end
unended : (set : Setting) (h : List Entry) → ends_of (history set h) (call_count (history set h)) ≡ []
unended set h = no_end (history set h) c (at (has_end (history set h) c) refl)
  where
    c : ℕ
    c = call_count (history set h)

    at : (b : Bool) → has_end (history set h) c ≡ b → has_end (history set h) c ≡ false
    at true is = absurd (omega (arith, ended_known set (reverse h) c is))
    at false is = is

-- the client opens a call
pub opened_speaks : OpenedSpeaks
opened_speaks set h seat p memo m named type =
    let ds : List Deed = history set h in
    let c : ℕ = call_count ds in
    let o : Opening = opening_by p m memo in
    let e : Entry = entry_by seat (Invoke p memo) in
    let item : Item = packet_item c p in
    subst (λ x. IsSpeaking x c o) (sym (history-push set h e))
    (subst (λ x. IsSpeaking (record { entry = e; does = invoke_effect ds p memo x } ∷ ds) c o) (sym named)
    (record {
      there = get_last (calls ds) o;
      unended = append-nil (ends_of ds c) ∙ unended set h;
      undone =
          list_any-append (completes c) (items_sent ds) (item ∷ [])
          ∙ or_from (list_any (completes c) (items_sent ds)) (list_any (completes c) (item ∷ []))
          (undone set (reverse h) c (omega arith)) (or_from (completes c item) false (and_right (c == c) (is_completion_type p.ptype) type) refl);
    }))

out_undone : (role : Role) (c : ℕ) (name : CallName) (out : Out) → completes c (out_item role c name out) ≡ false
out_undone Server c name (Message payload) = and_right (c == c) false refl
out_undone Client c name (Message payload) = and_right (c == c) false refl
out_undone role c name (Begin session resource offset) = and_right (c == c) false refl
out_undone role c name (Append session bytes) = and_right (c == c) false refl
out_undone role c name (Commit session) = and_right (c == c) false refl
out_undone role c name (Leave session) = and_right (c == c) false refl

-- it says something
pub said_speaks : SaidSpeaks
said_speaks set h seat c o out s =
    let ds : List Deed = history set h in
    let e : Entry = entry_by seat (Say c out) in
    let item : Item = out_item set.role c o.name out in
    subst (λ x. IsSpeaking x c o) (sym (history-push set h e))
    (subst (λ x. IsSpeaking (record { entry = e; does = with_call x (λ y. says_item (out_item set.role c y.name out)) } ∷ ds) c o) (sym s.there)
    (record {
      there = ap (λ xs. slice_get xs c) (append-nil (calls ds)) ∙ s.there;
      unended = append-nil (ends_of ds c) ∙ s.unended;
      undone =
          list_any-append (completes c) (items_sent ds) (item ∷ [])
          ∙ or_from (list_any (completes c) (items_sent ds)) (list_any (completes c) (item ∷ []))
          s.undone (or_from (completes c item) false (out_undone set.role c o.name out) refl);
    }))

pub messages_are_taken : MessagesAreTaken
messages_are_taken set ds c o payload s streams = rw (s.unended, s.there, streams, s.undone, and_right (not (is_server set.role)) false refl) refl

pub done_is_taken : DoneIsTaken
done_is_taken set h c o room s streams = rw (room, s.unended, s.there, streams, s.undone) refl
