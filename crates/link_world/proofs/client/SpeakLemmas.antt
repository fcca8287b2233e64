-- A call that a client has opened takes its messages, and then the end of their stream.
use Rattle.std.proofs.Common.{◌≡◌, ◌⊎◌, ℕ, Bool, true, false, List, Some, None, codes, refl, ap, sym, ◌∙◌, subst, inl, inr}
use Rattle.rpc_ids.specs.Names.{name_id}
use Rattle.rpc_ids.specs.declared.method.Kind.{Kind}
use Rattle.rpc_ids.specs.declared.method.Kind.TheVariants.{Bidi, ClientStream, ServerStream, Unary}
use Rattle.rpc_ids.specs.declared.method.MethodRef.{MethodRef}
use Rattle.demo_services.specs.Methods.{demo_id, demo_method}
use Rattle.rpc_handlers.specs.HandlerRule.{empty_memo}
use Rattle.rpc_handlers.specs.declared.answer.Out.TheVariants.{Say as Message}
use Rattle.rpc_journal.specs.declared.answers.SayRefused.{SayRefused}
use Rattle.rpc_journal.specs.declared.answers.SayRefused.TheVariants.{JournalFull, Memory as NoMemory}
use Rattle.rpc_journal.specs.declared.entry.EntryKind.TheVariants.{Say}
use Rattle.rpc_journal.specs.declared.setting.Setting.{Setting}
use Rattle.rpc_journal.specs.Effect.{Deed}
use Rattle.rpc_journal.specs.History.{adding, history}
use Rattle.rpc_journal.specs.Kinds.{is_unary, or_else, streams_out, streams_up}
use Rattle.rpc_journal.specs.Refusals.{done_refusal, is_full, out_refusal, refused_where, say_refusal}
use Rattle.rpc_journal.specs.Rows.{method_named}
use Rattle.rpc_journal.proofs.PlaceLemmas.{some_same}
use Rattle.rpc_schedule.specs.Schedule.{run_seat}
use Rattle.rpc_schedule.specs.Serving.{Serving, deeds}
use Rattle.link_laws.specs.one_run.Speaking.{IsSpeaking, opening_by}
use Rattle.link_laws.specs.world.Setup.{client_setting}
use Rattle.link_laws.specs.world.Starts.{next_name, request}
use Rattle.link_laws.proofs.one_run.Speaking.{done_is_taken, messages_are_taken, said_speaks}
use Rattle.link_world.specs.client.Asking.{CanSpeak, ClientAdds, has_stream, method_id}
use Rattle.link_world.specs.declared.client.under.Plain.{Plain}
use Rattle.link_world.specs.declared.client.under.Plain.TheVariants as plain

sum_known : (ds : List Deed) → method_named client_setting (next_name demo_id (method_id plain.Sum) ds) ≡ Some (demo_method (codes "Sum") ClientStream)
unfolding name_id
sum_known ds = refl

chat_known : (ds : List Deed) → method_named client_setting (next_name demo_id (method_id plain.Chat) ds) ≡ Some (demo_method (codes "Chat") Bidi)
unfolding name_id
chat_known ds = refl

-- the call of a method with a stream can speak
pub opened_can : (p : Plain) (set : Setting) (ds : List Deed) (payload : List ℕ) (new : Serving) (c : ℕ) → set ≡ client_setting
    → ((m : MethodRef) → method_named set (next_name demo_id (method_id p) ds) ≡ Some m → IsSpeaking (deeds new) c (opening_by (request (next_name demo_id (method_id p) ds) payload) m empty_memo))
    → has_stream p ≡ true → CanSpeak new c
opened_can plain.Echo set ds payload new c is speaks streams = absurd cc
opened_can plain.Count set ds payload new c is speaks streams = absurd cc
opened_can plain.Sum set ds payload new c is speaks streams = record {
  opening = opening_by (request (next_name demo_id (method_id plain.Sum) ds) payload) (demo_method (codes "Sum") ClientStream) empty_memo;
  speaks = speaks (demo_method (codes "Sum") ClientStream) (ap (λ (x : Setting). method_named x (next_name demo_id (method_id plain.Sum) ds)) is ∙ sum_known ds);
  streams = refl;
}
opened_can plain.Chat set ds payload new c is speaks streams = record {
  opening = opening_by (request (next_name demo_id (method_id plain.Chat) ds) payload) (demo_method (codes "Chat") Bidi) empty_memo;
  speaks = speaks (demo_method (codes "Chat") Bidi) (ap (λ (x : Setting). method_named x (next_name demo_id (method_id plain.Chat) ds)) is ∙ chat_known ds);
  streams = refl;
}

not_unary : (kind : Kind) → streams_up kind ≡ true → is_unary kind ≡ false
not_unary Unary up = absurd cc
not_unary ServerStream up = refl
not_unary ClientStream up = refl
not_unary Bidi up = refl

module _ (s : Serving) (c : ℕ) (client : s.table.setting ≡ client_setting) (can : CanSpeak s c) where
  -- a message is refused for want of room or memory alone
  pub refused_say : (payload : List ℕ) (why : SayRefused) → (why ≡ NoMemory) ⊎ (say_refusal s.table.setting s.table.entries c (Message payload) ≡ Some why)
      → (why ≡ NoMemory) ⊎ (why ≡ JournalFull)
  refused_say payload why (inl memory) = inl memory
  refused_say payload why (inr refused) = by (is_full s.table.entries) refused
    where
      taken : out_refusal s.table.setting (deeds s) c (Message payload) ≡ None
      taken = messages_are_taken s.table.setting (deeds s) c can.opening payload can.speaks (ap (λ (x : Setting). streams_out x.role can.opening.method.kind) client ∙ can.streams)

      by : (full : Bool) → or_else (refused_where full JournalFull) (out_refusal s.table.setting (deeds s) c (Message payload)) ≡ Some why → (why ≡ NoMemory) ⊎ (why ≡ JournalFull)
      by true is = inr (sym (some_same _ _ is))
      by false is = absurd (let none = sym taken ∙ is in cc)

  -- and so is the end of the stream
  pub refused_done : (why : SayRefused) → (why ≡ NoMemory) ⊎ (done_refusal s.table.setting s.table.entries c ≡ Some why) → (why ≡ NoMemory) ⊎ (is_full s.table.entries ≡ true)
  refused_done why (inl memory) = inl memory
  refused_done why (inr refused) = by (is_full s.table.entries) refl
    where
      by : (full : Bool) → is_full s.table.entries ≡ full → (why ≡ NoMemory) ⊎ (is_full s.table.entries ≡ true)
      by true is = inr is
      by false free =
          absurd (let none = sym (done_is_taken s.table.setting s.table.entries c can.opening free can.speaks (not_unary can.opening.method.kind can.streams)) ∙ refused in cc)

  -- it can say more
  pub said_can : (new : Serving) (payload : List ℕ) → ClientAdds s (adding s.table.entries run_seat (Say c (Message payload))) new → CanSpeak new c
  said_can new payload adds = record {
    opening = can.opening;
    speaks =
        subst (λ set. IsSpeaking (history set new.table.entries) c can.opening) (sym adds.setting)
        (subst (λ h. IsSpeaking (history s.table.setting h) c can.opening) (sym adds.added)
        (said_speaks s.table.setting s.table.entries run_seat c can.opening (Message payload) can.speaks));
    streams = can.streams;
  }
