-- Calls of methods other than Write have no store action.
use Rattle.std.proofs.Common.{◌≡◌, ℕ, ◌==◌, nat_le, Bool, true, false, if◌then◌else◌, List, [], ◌∷◌, ◌++◌, map, Option, Some, None, refl, sym, ap, ◌∙◌, subst, codes}
use Rattle.std.proofs.lemmas.Bool.{and_parts, eqb-true, false≢true}
use Rattle.std.specs.List.{AllByRecursion, range_with_len}
use Rattle.link_io.specs.declared.Shelf.{Shelf}
use Rattle.rpc_ids.specs.declared.method.MethodRef.{MethodRef}
use Rattle.rpc_ids.specs.Names.{name_id}
use Rattle.rpc_ids.specs.declared.status.Status.TheVariants.{InvalidArgument, Okay}
use Rattle.rpc_handlers.specs.declared.answer.Out.{Out}
use Rattle.rpc_handlers.specs.declared.answer.Out.TheVariants.{Say}
use Rattle.rpc_handlers.specs.declared.event.Event.{Event}
use Rattle.rpc_handlers.specs.declared.event.Event.TheVariants.{Request, Message, Completion, Ended, Tick}
use Rattle.rpc_handlers.specs.Limits.{is_long}
use Rattle.transfer_words.specs.Saying.{out_of}
use Rattle.transfer_words.specs.Spoken.{text_in}
use Rattle.transfer_resume.specs.declared.side.Side.{Side}
use Rattle.transfer_resume.specs.declared.side.Side.TheVariants.{Read, Write}
use Rattle.transfer_resume.specs.Book.{Outgoing, new_book, spelled_all}
use Rattle.transfer_resume.specs.Standing.{IsSaid}
use Rattle.transfer_resume.specs.Uploads.{outs_over}
use Rattle.transfer_resume.proofs.ReadLaws.{reads_store_nothing}
use Rattle.demo_services.specs.declared.call.DemoCall.{DemoCall}
use Rattle.demo_services.specs.declared.call.DemoCall.TheVariants.{Echo, Count, Sum, Chat, Log, Transfer}
use Rattle.demo_services.specs.Answers.{ends, says, too_long}
use Rattle.demo_services.specs.Count.{count_to}
use Rattle.demo_services.specs.DemoCall.{answer_of, call_after, memo_of}
use Rattle.demo_services.specs.DemoRule.{demo_call, first, first_by, next, plain_call, transfer_side}
use Rattle.demo_services.specs.Laws.{said}
use Rattle.demo_services.specs.Log.{log_line}
use Rattle.demo_services.specs.Methods.{is_log, is_named, is_transfer, transfer_id}
use Rattle.demo_services.specs.ReadBack.{answer-memo_of, next-memo_of}
use Rattle.demo_services.specs.Transfer.{demo_seed, transfer_memo}
use Rattle.demo_services.specs.Uploads.{IsMessage, OthersStoreNothing, all_comes}
use Rattle.demo_services.proofs.FirstStates.{made_first}
use Rattle.demo_services.proofs.UploadLemmas.{said_over}

abbrev AreMessages : List Out → Type 0
AreMessages outs = AllByRecursion IsMessage outs

both_messages : (xs ys : List Out) → AreMessages xs → AreMessages ys → AreMessages (xs ++ ys)
both_messages [] ys first later = later
both_messages (x ∷ xs) ys first later = (first.0, both_messages xs ys first.1 later)

-- A call without sessions.

abbrev IsPlain : DemoCall → Type 0
IsPlain (Echo _) = Unit {0}
IsPlain (Count _) = Unit {0}
IsPlain (Sum _) = Unit {0}
IsPlain (Chat _) = Unit {0}
IsPlain (Log _) = Unit {0}
IsPlain (Transfer b) = ⊥

numbers_said : (ns : List ℕ) → AreMessages (map (λ byte. Say (byte ∷ [])) ns)
numbers_said [] = tt
numbers_said (n ∷ ns) = ((n ∷ [], refl), numbers_said ns)

echo_messages : (ev : Event) → AreMessages (answer_of (Echo tt) ev).items
echo_messages (Request payload) = by_length (is_long payload)
  where
    by_length : (test : Bool) → AreMessages (if test then too_long else ends Okay payload).items
    by_length true = tt
    by_length false = tt
echo_messages (Message payload) = tt
echo_messages Completion = tt
echo_messages (Ended status) = tt
echo_messages (Tick now) = tt

count_messages : (ev : Event) → AreMessages (answer_of (Count tt) ev).items
count_messages (Request []) = tt
count_messages (Request (n ∷ [])) = by_bound (nat_le n 64)
  where
    by_bound : (test : Bool) → AreMessages (if test then record (ends Okay []) { items = count_to n } else ends InvalidArgument []).items
    by_bound true = numbers_said (range_with_len 1 n)
    by_bound false = tt
count_messages (Request (n ∷ m ∷ more)) = tt
count_messages (Message payload) = tt
count_messages Completion = tt
count_messages (Ended status) = tt
count_messages (Tick now) = tt

sum_messages : (total : ℕ) (ev : Event) → AreMessages (answer_of (Sum total) ev).items
sum_messages total (Request payload) = tt
sum_messages total (Message payload) = tt
sum_messages total Completion = tt
sum_messages total (Ended status) = tt
sum_messages total (Tick now) = tt

-- a payload that is said where it is short enough
said_by_length : (payload : List ℕ) (test : Bool) → AreMessages (if test then too_long else says payload).items
said_by_length payload true = tt
said_by_length payload false = ((payload, refl), tt)

chat_messages : (ev : Event) → AreMessages (answer_of (Chat tt) ev).items
chat_messages (Request payload) = tt
chat_messages (Message payload) = said_by_length payload (is_long payload)
chat_messages Completion = tt
chat_messages (Ended status) = tt
chat_messages (Tick now) = tt

log_messages : (ev : Event) → AreMessages (answer_of (Log tt) ev).items
log_messages (Request payload) = tt
log_messages (Message payload) = said_by_length (log_line payload) (is_long (log_line payload))
log_messages Completion = tt
log_messages (Ended status) = tt
log_messages (Tick now) = tt

plain_messages : (call : DemoCall) (ev : Event) → IsPlain call → AreMessages (answer_of call ev).items
plain_messages (Echo tt) ev plain = echo_messages ev
plain_messages (Count tt) ev plain = count_messages ev
plain_messages (Sum total) ev plain = sum_messages total ev
plain_messages (Chat tt) ev plain = chat_messages ev
plain_messages (Log tt) ev plain = log_messages ev
plain_messages (Transfer b) ev plain = absurd plain

plain_after : (call : DemoCall) (ev : Event) → IsPlain call → IsPlain (call_after call ev)
plain_after (Echo tt) ev plain = tt
plain_after (Count tt) ev plain = tt
plain_after (Sum total) ev plain = tt
plain_after (Chat tt) ev plain = tt
plain_after (Log tt) ev plain = tt
plain_after (Transfer b) ev plain = absurd plain

plain_said : (events : List Event) (call : DemoCall) → IsPlain call → AreMessages (said (memo_of call) events)
plain_said [] call plain = tt
plain_said (ev ∷ events) call plain =
    subst (λ a. AreMessages (a.items ++ said (next (memo_of call) ev) events)) (answer-memo_of call ev)
    (subst (λ m. AreMessages ((answer_of call ev).items ++ said m events)) (next-memo_of call ev)
    (both_messages (answer_of call ev).items (said (memo_of (call_after call ev)) events) (plain_messages call ev plain) (plain_said events (call_after call ev) (plain_after call ev plain))))

chat_or_echo : (b : Bool) → IsPlain (if b then Chat tt else Echo tt)
chat_or_echo true = tt
chat_or_echo false = tt

sum_or_later : (m : MethodRef) (b : Bool) → IsPlain (if b then Sum 0 else if is_named (codes "Chat") m then Chat tt else Echo tt)
sum_or_later m true = tt
sum_or_later m false = chat_or_echo (is_named (codes "Chat") m)

demo_is_plain : (m : MethodRef) (b : Bool) →
    IsPlain (if b then Count tt else if is_named (codes "Sum") m then Sum 0 else if is_named (codes "Chat") m then Chat tt else Echo tt)
demo_is_plain m true = tt
demo_is_plain m false = sum_or_later m (is_named (codes "Sum") m)

plain_is_plain : (m : MethodRef) (b : Bool) → IsPlain (if b then Log tt else demo_call m)
plain_is_plain m true = tt
plain_is_plain m false = demo_is_plain m (is_named (codes "Count") m)

-- A call of the transfer service.

words_said : (outs : List Outgoing) → AllByRecursion IsSaid outs → AreMessages (spelled_all outs)
words_said [] said = tt
words_said (o ∷ outs) said = ((text_in o.session said.0.0, ap (out_of o.session) said.0.1), words_said outs said.1)

read_said : (shelf : Shelf) (window chunk : ℕ) (events : List Event) → AreMessages (said (transfer_memo (new_book Read shelf window chunk)) events)
read_said shelf window chunk events =
    subst AreMessages (sym (said_over events (new_book Read shelf window chunk)))
    (words_said (outs_over (new_book Read shelf window chunk) (all_comes events)) (reads_store_nothing shelf window chunk (all_comes events)))

module _ (shelf : Shelf) (window chunk : ℕ) (m : MethodRef) (events : List Event) where
  abbrev SaidBy : Option Side → Type 0
  SaidBy side = AreMessages (said (memo_of (first_by (demo_seed shelf window chunk) m side)) events)

  read_by : transfer_side m ≡ Some Read → SaidBy (transfer_side m)
  read_by is = subst (λ memo. AreMessages (said memo events)) (made_first Read shelf window chunk m (new_book Read shelf window chunk) is refl) (read_said shelf window chunk events)

  side_by : (read write : Bool) → write ≡ false → transfer_side m ≡ (if read then Some Read else if write then Some Write else None) → SaidBy (transfer_side m)
  side_by true write other is = read_by is
  side_by false true other is = absurd (cc)
  side_by false false other is = subst SaidBy (sym is) (plain_said events (plain_call m) (plain_is_plain m (is_log (codes "Text") m)))

pub others_store_nothing : OthersStoreNothing
others_store_nothing shelf window chunk m events other = side_by shelf window chunk m events (is_transfer (codes "Read") m) (is_transfer (codes "Write") m) other refl

-- A method has one name.

unlike : name_id (codes "Read") ≡ name_id (codes "Write") → ⊥
unfolding name_id
unlike same = false≢true (subst (λ x. (name_id (codes "Read") == x) ≡ true) same refl)

one_name : (m : MethodRef) → is_transfer (codes "Write") m ≡ true → is_transfer (codes "Read") m ≡ true → ⊥
one_name m write read =
    unlike
    (sym (eqb-true m.method (name_id (codes "Read")) (and_parts (m.service == transfer_id) _ read).1)
    ∙ eqb-true m.method (name_id (codes "Write")) (and_parts (m.service == transfer_id) _ write).1)

write_side : (m : MethodRef) (read write : Bool) → (read ≡ true → ⊥) → write ≡ true → (if read then Some Read else if write then Some Write else None) ≡ Some Write
write_side m true write not_read is = absurd (not_read refl)
write_side m false true not_read is = refl
write_side m false false not_read is = absurd (cc)

-- the first state of a call of Write, whatever else its method says
pub first_write_by : (shelf : Shelf) (window chunk : ℕ) (m : MethodRef) → is_transfer (codes "Write") m ≡ true → transfer_memo (new_book Write shelf window chunk) ≡ first (demo_seed shelf window chunk) m
first_write_by shelf window chunk m is =
    made_first Write shelf window chunk m (new_book Write shelf window chunk)
    (write_side m (is_transfer (codes "Read") m) (is_transfer (codes "Write") m) (one_name m is) is) refl
