-- One more call can open with the next id.
use Rattle.std.proofs.Common.{◌≡◌, ◌⊎◌, ℕ, ◌+◌, ◌≤◌, Bool, true, false, ◌||◌, not, List, [], ◌∷◌, ◌++◌, length, reverse, Option, Some, None, IfSome, is_none, option_to_list, option_map, inl, inr, refl, ap, sym, ◌∙◌, subst, arith, append-nil, length-append}
use Rattle.std.proofs.lemmas.List.{length-reverse}
use Rattle.std.specs.List.{AllByRecursion}
use Rattle.demo_services.specs.Methods.{demo_methods}
use Rattle.rpc_channel.specs.Rising.{has_id}
use Rattle.rpc_handlers.specs.declared.event.Memo.{Memo}
use Rattle.rpc_ids.specs.Registry.{method_of}
use Rattle.rpc_ids.specs.declared.method.MethodRef.{MethodRef}
use Rattle.rpc_packet.specs.declared.call_name.CallName.{CallName}
use Rattle.rpc_packet.specs.declared.owned.Packet.{Packet}
use Rattle.rpc_journal.specs.declared.answers.InvokeRefused.{InvokeRefused}
use Rattle.rpc_journal.specs.declared.answers.InvokeRefused.TheVariants.{JournalFull, Live, Memory as NoMemory, NoChannel, NoMethod}
use Rattle.rpc_journal.specs.declared.entry.Entry.{Entry}
use Rattle.rpc_journal.specs.declared.setting.Setting.{Setting}
use Rattle.rpc_journal.specs.Calls.{call_count, calls, live_call}
use Rattle.rpc_journal.specs.Effect.{Deed, Effect, Opening}
use Rattle.rpc_journal.specs.Entries.{effect_of, invoke_effect, with_call}
use Rattle.rpc_journal.specs.History.{deeds_of, history}
use Rattle.rpc_journal.specs.Items.{is_for}
use Rattle.rpc_journal.specs.Kinds.{or_else}
use Rattle.rpc_journal.specs.Refusals.{invoke_refusal, is_full, refused_where}
use Rattle.rpc_journal.specs.Rows.{channel_closed, channels_in, is_closed, method_named}
use Rattle.rpc_journal.proofs.PlaceLemmas.{some_same}
use Rattle.rpc_journal.proofs.Push.{history-push}
use Rattle.history_laws.proofs.messages.Members.{all_join, all_weaken}
use Rattle.link_laws.specs.world.Setup.{client_setting}
use Rattle.link_laws.proofs.lossless_scripts.Starting.{fresh_name}
use Rattle.link_world.specs.client.ClientSide.{IsNumbered}

-- the calls are the same, and channel 1 is open still
pub numbered_still : (old new : List Deed) → calls new ≡ calls old → is_closed new 1 ≡ is_closed old 1 → IsNumbered old → IsNumbered new
numbered_still old new same closed numbered = record {
  unclosed = closed ∙ numbered.unclosed;
  ids = subst (λ (os : List Opening). AllByRecursion (λ (o : Opening). o.name.call ≤ length os) os) (sym same) numbered.ids;
}

-- what opens, if anything does, has the next id at most
abbrev pub OpensNext : ℕ → Option Opening → Type 0
OpensNext count o = IfSome o (λ (x : Opening). x.name.call ≤ count + 1)

ids_more : (os : List Opening) (o : Option Opening) → AllByRecursion (λ (x : Opening). x.name.call ≤ length os) os → OpensNext (length os) o
    → AllByRecursion (λ (x : Opening). x.name.call ≤ length (os ++ option_to_list o)) (os ++ option_to_list o)
ids_more os None all next = subst (λ (xs : List Opening). AllByRecursion (λ (x : Opening). x.name.call ≤ length xs) xs) (sym (append-nil os)) all
ids_more os (Some o) all next =
    let more = length-append os (o ∷ []) in
    all_join (λ (x : Opening). x.name.call ≤ length (os ++ o ∷ [])) os (o ∷ [])
    (all_weaken (λ (x : Opening). x.name.call ≤ length os) (λ (x : Opening). x.name.call ≤ length (os ++ o ∷ [])) os (λ x low. omega (arith, low, more)) all)
    (omega (arith, next, more), tt)

-- behind one more entry
pub numbered_entry : (set : Setting) (h : List Entry) (e : Entry) → is_for 1 (channel_closed e.kind) ≡ false
    → OpensNext (call_count (history set h)) (effect_of set (history set h) e.kind).opens → IsNumbered (history set h) → IsNumbered (history set (h ++ e ∷ []))
numbered_entry set h e closes opens numbered = subst IsNumbered (sym (history-push set h e)) (record {
  unclosed = ap (λ b. b || is_closed (history set h) 1) closes ∙ numbered.unclosed;
  ids = ids_more (calls (history set h)) (effect_of set (history set h) e.kind).opens numbered.ids opens;
})

-- what is said of a call opens none
pub said_opens : (n : ℕ) (o : Option Opening) (f : Opening → Effect) → ((x : Opening) → (f x).opens ≡ None) → OpensNext n (with_call o f).opens
said_opens n None f none = tt
said_opens n (Some x) f none = rw (none x) tt

pub invoked_opens : (ds : List Deed) (p : Packet) (memo : Memo) (m : Option MethodRef) → p.name.call ≡ call_count ds + 1 → OpensNext (call_count ds) (invoke_effect ds p memo m).opens
invoked_opens ds p memo None next = tt
invoked_opens ds p memo (Some m) next = omega (arith, next)

count_within : (set : Setting) (es : List Entry) → call_count (deeds_of set es) ≤ length es
count_within set [] = omega arith
count_within set (e ∷ es) =
    omega (
      arith,
      count_within set es,
      length-append (calls (deeds_of set es)) (option_to_list (effect_of set (deeds_of set es) e.kind).opens),
      one_opens (effect_of set (deeds_of set es) e.kind).opens,
    )
  where
    one_opens : (o : Option Opening) → length (option_to_list o) ≤ 1
    one_opens None = omega arith
    one_opens (Some o) = omega arith

-- there are no more calls than entries
pub calls_within : (set : Setting) (h : List Entry) → call_count (history set h) ≤ length h
calls_within set h = omega (arith, count_within set (reverse h), length-reverse h)

-- Such a call is refused for a full journal and for want of memory, for nothing else.

channel_in : (ds : List Deed) → is_closed ds 1 ≡ false → has_id (channels_in client_setting ds) 1 ≡ true
channel_in ds unclosed = rw unclosed refl

pub invoke_cause : (set : Setting) (h : List Entry) (name : CallName) (why : InvokeRefused) → set ≡ client_setting → IsNumbered (history set h)
    → is_none (method_of demo_methods name.service name.method) ≡ false → name.channel ≡ 1 → name.call ≡ call_count (history set h) + 1
    → (why ≡ NoMemory) ⊎ (invoke_refusal set h name ≡ Some why) → (why ≡ NoMemory → ⊥) → (why ≡ JournalFull → ⊥) → ⊥
invoke_cause set h name why is numbered known channel next (inl memory) unmemory unfull = unmemory memory
invoke_cause set h name why is numbered known channel next (inr refused) unmemory unfull =
    at (is_full h) (has_id (channels_in set (history set h)) name.channel) (is_none (method_named set name)) (live_call (history set h) name)
    (ap (has_id (channels_in set (history set h))) channel ∙ (ap (λ (s : Setting). has_id (channels_in s (history set h)) 1) is ∙ channel_in (history set h) numbered.unclosed))
    (ap (λ (s : Setting). is_none (method_named s name)) is ∙ known)
    (fresh_name (history set h) (call_count (history set h)) name numbered.ids (omega (arith, next))) refused
  where
    at : (full there none : Bool) (live : Option ℕ) → there ≡ true → none ≡ false → live ≡ None
        → or_else (refused_where full JournalFull) (or_else (refused_where (not there) NoChannel) (or_else (refused_where none NoMethod) (option_map Live live))) ≡ Some why → ⊥
    at true there none live opened has fresh because = unfull (sym (some_same JournalFull why because))
    at false false none live opened has fresh because = absurd cc
    at false true true live opened has fresh because = absurd cc
    at false true false (Some c) opened has fresh because = absurd cc
    at false true false None opened has fresh because = absurd cc
