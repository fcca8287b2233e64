-- A new pass opens the call.
use Rattle.std.proofs.Common.{◌≡◌, ◌<◌, ℕ, Bool, true, false, List, [], ◌∷◌, ◌++◌, length, Option, Some, None, Ok, refl, ap, sym, ◌∙◌, subst, arith, length-append, not, is_none}
use Rattle.std.specs.Option.{option_to_list}
use Rattle.std.specs.Prelude.{option_map}
use Rattle.entry_lists.specs.Entries.{made_by}
use Rattle.turn_cell.specs.Passes.{IsNew}
use Rattle.rpc_ids.specs.declared.method.MethodRef.{MethodRef}
use Rattle.rpc_ids.specs.declared.method.Role.TheVariants.{Client}
use Rattle.rpc_packet.specs.declared.call_name.CallName.{CallName}
use Rattle.rpc_handlers.specs.HandlerRule.{empty_memo}
use Rattle.rpc_journal.specs.declared.answers.InvokeRefused as invoke
use Rattle.rpc_journal.specs.declared.entry.Entry.{Entry}
use Rattle.rpc_journal.specs.declared.entry.EntryKind.{EntryKind}
use Rattle.rpc_journal.specs.declared.entry.EntryKind.TheVariants.{Invoke}
use Rattle.rpc_journal.specs.declared.setting.Setting.{Setting}
use Rattle.rpc_channel.specs.Rising.{has_id}
use Rattle.rpc_journal.specs.Calls.{call_count, calls, live_call}
use Rattle.rpc_journal.specs.Changes.{InvokeDid, request}
use Rattle.rpc_journal.specs.Conditions.{IsCall}
use Rattle.rpc_journal.specs.Effect.{Deed}
use Rattle.rpc_journal.specs.Entries.{invoke_effect}
use Rattle.rpc_journal.specs.History.{adding, deeds_with, entry_by, history}
use Rattle.rpc_journal.specs.Items.{items_sent}
use Rattle.rpc_journal.specs.Kinds.{or_else}
use Rattle.rpc_journal.specs.Laws.{seat_of}
use Rattle.rpc_journal.specs.Refusals.{invoke_refusal, is_full, refused_where}
use Rattle.rpc_journal.specs.Rows.{channels_in, method_named}
use Rattle.rpc_journal.proofs.Push.{history-push}
use Rattle.rpc_shared.specs.Steps.{Steps}
use Rattle.rpc_shared.specs.session.Crew.{Adds, Lock, Seat, Stands}
use Rattle.rpc_shared.proofs.session.PassLemmas.{adds_one, stands_after}
use Rattle.rpc_shared.proofs.session.SessionLemmas.{new_stands}
use Rattle.live_client.specs.Driving.{Drives, runs_by}
use Rattle.live_client.specs.Histories.{utterances_of}
use Rattle.live_client.specs.Opening.{Opens}
use Rattle.live_client.specs.Silent.{silent_rule}
use Rattle.live_client.proofs.DriveLemmas.{runs_beyond}

abbrev anything : EntryKind → Bool
anything kind = true

-- what nothing speaks against names a method
past : {E : Type 0} (b : Bool) (e : E) (o : Option E) → or_else (refused_where b e) o ≡ None → (b ≡ false) × (o ≡ None)
past true e o is = absurd (cc is)
past false e o is = (refl, is)

named : (o : Option MethodRef) → is_none o ≡ false → (m : MethodRef) × (o ≡ Some m)
named None is = absurd (cc is)
named (Some m) is = (m, refl)

method_there : (set : Setting) (h : List Entry) (name : CallName) → invoke_refusal set h name ≡ None → (m : MethodRef) × (method_named set name ≡ Some m)
method_there set h name is =
    let live = option_map invoke.TheVariants.Live (live_call (history set h) name) in
    let methods = or_else (refused_where (is_none (method_named set name)) invoke.TheVariants.NoMethod) live in
    let ids = not (has_id (channels_in set (history set h)) name.channel) in
    let one = past (is_full h) invoke.TheVariants.JournalFull (or_else (refused_where ids invoke.TheVariants.NoChannel) methods) is in
    let two = past ids invoke.TheVariants.NoChannel methods one.1 in
    let three = past (is_none (method_named set name)) invoke.TheVariants.NoMethod live two.1 in
    named (method_named set name) three.0

counted : (set : Setting) (ds : List Deed) (name : CallName) (payload : List ℕ) (o : Option MethodRef) (m : MethodRef) → o ≡ Some m
    → call_count ds < length (calls ds ++ option_to_list (invoke_effect ds (request name payload) empty_memo o).opens)
counted set ds name payload None m is = absurd (cc is)
counted set ds name payload (Some x) m is = omega (arith, length-append (calls ds) (option_to_list (invoke_effect ds (request name payload) empty_memo (Some x)).opens))

module _ (r : Lock) (p q : Seat) (client : r.base.role ≡ Client) (new : IsNew r 1 p) (name : CallName) (payload : List ℕ) where
  abbrev opening : EntryKind
  opening = Invoke (request name payload) empty_memo

  module _ {H : Type 0} (c : ℕ) (s : Steps silent_rule r p q (λ set seat. InvokeDid {H = H} set seat name payload empty_memo (Ok c))) where
    number : p.view.known.number ≡ 1
    number = new.pass.number

    none_before : made_by seat_of 1 s.before ≡ []
    none_before = subst (λ n. made_by seat_of n s.before ≡ []) number (s.own ∙ new.mine)

    seen : q.view.known.seen ≡ adding s.before 1 opening
    seen = s.did.adds ∙ ap (λ n. adding s.before n opening) number

    mine : q.view.known.mine ≡ entry_by 1 opening ∷ []
    mine = s.mine (entry_by p.view.known.number opening ∷ []) s.did.adds ∙ (ap (λ es. es ++ entry_by p.view.known.number opening ∷ []) new.mine ∙ ap (λ n. entry_by n opening ∷ []) number)

    adds : Adds silent_rule r anything p q
    adds = adds_one silent_rule r p q (λ set seat. InvokeDid {H = H} set seat name payload empty_memo (Ok c)) anything opening s s.did.adds refl (λ is. absurd (cc is))

    stands : Stands silent_rule r q
    stands = stands_after silent_rule r anything p q (new_stands silent_rule r 1 p new) adds

    deeds : history r.base q.view.known.seen ≡ deeds_with r.base (history r.base s.before) (entry_by 1 opening)
    deeds = ap (history r.base) seen ∙ history-push r.base s.before (entry_by 1 opening)

    there : IsCall r.base q.view.known.seen c
    there =
        let m = method_there r.base s.before name s.did.unrefused in
        record {
          below =
              subst (λ ds. c < call_count ds) (sym deeds)
              (subst (λ n. n < call_count (deeds_with r.base (history r.base s.before) (entry_by 1 opening))) (sym s.did.answer)
              (counted r.base (history r.base s.before) name payload (method_named r.base name) m.0 m.1));
        }

    ran_none : runs_by 1 (history r.base q.view.known.seen) c ≡ []
    ran_none = ap (λ ds. runs_by 1 ds c) deeds ∙ runs_beyond r.base c [] s.before (s.before, refl) none_before

    pub open_drives : (watches : Bool) → Drives watches opening r c [] [] [] q
    open_drives watches = record {
      stands = stands;
      number = adds.same.number ∙ number;
      rest = [];
      mine = mine;
      kinds = tt;
      there = there;
      runs = ran_none;
      said = λ may. ap utterances_of mine;
      front = (items_sent (history r.base q.view.known.seen), refl);
      count = rw (mine) refl;
    }

    pub open_opens : Opens r name payload c q
    open_opens = record {
      can = record { stands = stands; number = adds.same.number ∙ number; there = there; client = client };
      before = s.before;
      others = none_before;
      seen = seen;
      number = s.did.answer;
      mine = mine;
      drives = open_drives;
    }
