-- What a client's task says goes out.
use Rattle.std.proofs.Common.{◌≡◌, ◌≢◌, ℕ, zero, suc, ◌<◌, ◌≤◌, Bool, true, false, ◌&&◌, ◌||◌, List, [], ◌∷◌, ◌++◌, length, map, None, is_none, if◌then◌else◌, refl, ap, sym, ◌∙◌, subst, arith, append_assoc, length-append}
use Rattle.std.proofs.lemmas.Bool.{eq-eqb}
use Rattle.std.proofs.lemmas.List.{append-nil}
use Rattle.std.proofs.lemmas.List.Folds.{list_any-append}
use Rattle.std.proofs.lemmas.Option.{slice_get_within}
use Rattle.std.specs.List.{list_any}
use Rattle.rpc_ids.specs.declared.method.Role.TheVariants.{Client}
use Rattle.rpc_handlers.specs.declared.answer.Out.{Out}
use Rattle.rpc_handlers.specs.declared.answer.Out.TheVariants.{Say as Message, Begin, Append, Commit, Leave}
use Rattle.rpc_handlers.specs.declared.event.Memo.{Memo}
use Rattle.rpc_journal.specs.declared.entry.Entry.{Entry}
use Rattle.rpc_journal.specs.declared.entry.EntryKind.TheVariants.{Flush, Say}
use Rattle.rpc_journal.specs.declared.item.Item.{Item}
use Rattle.rpc_journal.specs.declared.setting.Setting.{Setting}
use Rattle.rpc_journal.specs.Calls.{runner_of}
use Rattle.rpc_journal.specs.Effect.{Deed, Opening}
use Rattle.rpc_journal.specs.Entries.{out_item, with_call}
use Rattle.rpc_journal.specs.History.{adding, entry_by, history}
use Rattle.rpc_journal.specs.Items.{flush_count, halt_reason, is_done, is_for, items_sent, sends_completion}
use Rattle.rpc_journal.specs.Kinds.{streams_up}
use Rattle.rpc_journal.specs.Queues.{puts_since, starts_since}
use Rattle.rpc_journal.specs.Refusals.{out_refusal}
use Rattle.rpc_journal.specs.Rows.{says_item}
use Rattle.rpc_journal.proofs.PlaceLemmas.{get_none}
use Rattle.rpc_journal.proofs.Push.{history-push}
use Rattle.rpc_schedule.specs.Schedule.{Flushed, NoneWaits, flush_seat, run_seat}
use Rattle.history_laws.specs.rounds.Streams.{HasStream, IsAtRest}
use Rattle.history_laws.proofs.rounds.StreamLemmas.{plain_deed, plain-call_at, plain_stream}
use Rattle.link_laws.specs.world.Setup.{quiet_rule}
use Rattle.link_laws.specs.world.Client.{FlushesTo, all_said_in, said_in}

module _ (set : Setting) (role : set.role ≡ Client) (c : ℕ) (o : Opening) (m : Memo) (speaks : streams_up o.method.kind ≡ true) (before : List Deed) where
  -- the client stands so while the task speaks, and has sent these items
  pub record Speaks (ds : List Deed) (items : List Item) : Type 0 where
    pub stream : HasStream quiet_rule set ds c o m
    pub undone : is_done ds c ≡ false
    pub taken : (k : ℕ) → starts_since ds k ≡ length (puts_since ds k)
    pub idle : (k : ℕ) → runner_of ds k ≡ None
    pub flushed : flush_count ds ≤ length (items_sent ds)
    pub unhalted : halt_reason ds ≡ None
    pub sent : items_sent ds ≡ items
    pub others : (k : ℕ) (other : Opening) (state : Memo) → k ≢ c → HasStream quiet_rule set before k other state → HasStream quiet_rule set ds k other state

  -- an entry that says these items, which complete nothing
  abbrev completes : Item → Bool
  completes item = is_for c item.call && sends_completion item.act

  abbrev item_of : Out → Item
  item_of out = out_item Client c o.name out

  open_item : (out : Out) → list_any completes (item_of out ∷ []) ≡ false
  open_item (Message payload) = rw (eq-eqb c c refl) refl
  open_item (Begin session resource offset) = rw (eq-eqb c c refl) refl
  open_item (Append session bytes) = rw (eq-eqb c c refl) refl
  open_item (Commit session) = rw (eq-eqb c c refl) refl
  open_item (Leave session) = rw (eq-eqb c c refl) refl

  not_refused : (ds : List Deed) → HasStream quiet_rule set ds c o m → is_done ds c ≡ false → (out : Out) → out_refusal set ds c out ≡ None
  not_refused ds stream undone (Message payload) = rw (stream.unended, stream.opened, role, speaks, undone) refl
  not_refused ds stream undone (Begin session resource offset) = rw (stream.uncancelled) refl
  not_refused ds stream undone (Append session bytes) = rw (stream.uncancelled) refl
  not_refused ds stream undone (Commit session) = rw (stream.uncancelled) refl
  not_refused ds stream undone (Leave session) = rw (stream.uncancelled) refl

  abbrev say_deed : Out → Deed
  say_deed out = plain_deed (entry_by run_seat (Say c out)) None [] (item_of out ∷ [])

  said_deeds : (h : List Entry) (out : Out) → HasStream quiet_rule set (history set h) c o m → is_done (history set h) c ≡ false →
      history set (said_in set c h out) ≡ say_deed out ∷ history set h
  said_deeds h out stream undone =
      ap (λ r. history set (if is_none r then adding h run_seat (Say c out) else h)) (not_refused (history set h) stream undone out)
      ∙ (history-push set h (entry_by run_seat (Say c out))
      ∙ (ap (λ x. record { entry = entry_by run_seat (Say c out); does = with_call x (λ y. says_item (out_item set.role c y.name out)) } ∷ history set h) stream.opened
      ∙ ap (λ x. record { entry = entry_by run_seat (Say c out); does = says_item (out_item x c o.name out) } ∷ history set h) role))

  said_stands : (ds : List Deed) (out : Out) (items : List Item) → Speaks ds items → Speaks (say_deed out ∷ ds) (items ++ item_of out ∷ [])
  said_stands ds out items x =
      let e = entry_by run_seat (Say c out) in
      let says = item_of out ∷ [] in
      let stays : (k : ℕ) (other : Opening) (state : Memo) → HasStream quiet_rule set ds k other state → HasStream quiet_rule set (say_deed out ∷ ds) k other state
      = λ k other state there. plain_stream ds e None [] says quiet_rule set k other state state there (plain-call_at ds e [] says k) refl refl refl refl there.state in
      record {
        stream = stays c o m x.stream;
        undone = list_any-append completes (items_sent ds) says ∙ (ap (λ b. b || list_any completes says) x.undone ∙ open_item out);
        taken = λ k. x.taken k ∙ ap length (sym (append-nil (puts_since ds k)));
        idle = x.idle;
        flushed = omega (arith, x.flushed, length-append (items_sent ds) says);
        unhalted = x.unhalted;
        sent = ap (λ xs. xs ++ says) x.sent;
        others = λ k other state apart there. stays k other state (x.others k other state apart there);
      }

  pub all_said : (outs : List Out) (h : List Entry) (items : List Item) → Speaks (history set h) items → Speaks (history set (all_said_in set c outs h)) (items ++ map item_of outs)
  all_said [] h items x = subst (Speaks (history set h)) (sym (append-nil items)) x
  all_said (out ∷ outs) h items x =
      let first : Speaks (history set (said_in set c h out)) (items ++ item_of out ∷ [])
      = subst (λ ds. Speaks ds (items ++ item_of out ∷ [])) (sym (said_deeds h out x.stream x.undone)) (said_stands (history set h) out items x) in
      subst (Speaks (history set (all_said_in set c outs (said_in set c h out)))) (append_assoc items (item_of out ∷ []) (map item_of outs))
      (all_said outs (said_in set c h out) (items ++ item_of out ∷ []) first)

  abbrev flush_deed : Deed
  flush_deed = plain_deed (entry_by flush_seat Flush) None [] []

  flush_stands : (ds : List Deed) (items : List Item) → flush_count ds < length (items_sent ds) → Speaks ds items → Speaks (flush_deed ∷ ds) items
  flush_stands ds items waits x =
      let e = entry_by flush_seat Flush in
      let stays : (k : ℕ) (other : Opening) (state : Memo) → HasStream quiet_rule set ds k other state → HasStream quiet_rule set (flush_deed ∷ ds) k other state
      = λ k other state there. plain_stream ds e None [] [] quiet_rule set k other state state there (plain-call_at ds e [] [] k) refl refl refl refl there.state in
      record {
        stream = stays c o m x.stream;
        undone = ap (list_any completes) (append-nil (items_sent ds)) ∙ x.undone;
        taken = λ k. x.taken k ∙ ap length (sym (append-nil (puts_since ds k)));
        idle = x.idle;
        flushed = omega (arith, waits, length-append (items_sent ds) []);
        unhalted = x.unhalted;
        sent = append-nil (items_sent ds) ∙ x.sent;
        others = λ k other state apart there. stays k other state (x.others k other state apart there);
      }

  pub all_flushed : (n : ℕ) (h after : List Entry) (items : List Item) → FlushesTo set n h after → Speaks (history set h) items → Speaks (history set after) items
  all_flushed zero h after items same x = subst (λ l. Speaks (history set l) items) (sym same) x
  all_flushed (suc n) h after items flushes x =
      let flushed : Flushed set h flushes.0 = flushes.1 in
      let waits = slice_get_within (items_sent (history set h)) (flush_count (history set h)) flushed.item flushed.waits in
      let deeds : history set flushes.0 ≡ flush_deed ∷ history set h = ap (history set) flushed.adds ∙ history-push set h (entry_by flush_seat Flush) in
      all_flushed n flushes.0 after items flushes.2 (subst (λ ds. Speaks ds items) (sym deeds) (flush_stands (history set h) items waits x))

  pub rests : (ds : List Deed) (items : List Item) → Speaks ds items → NoneWaits ds → IsAtRest ds
  rests ds items x none =
      record { taken = x.taken; idle = x.idle; flushed = (let f = x.flushed in omega (arith, f, get_none (items_sent ds) (flush_count ds) none)); unhalted = x.unhalted }
