-- All that a sender sends are parts of its resource.
use Rattle.std.proofs.Common.{◌≡◌, ℕ, ◌+◌, ◌==◌, List, [], ◌∷◌, length, refl, nat_le, Bool, true, false, subst}
use Rattle.std.specs.List.{All}
use Rattle.std.proofs.lemmas.List.Elements.{All-nil, All-cons, All-append}
use Rattle.transfer_base.specs.declared.Ask.{Ask}
use Rattle.transfer_base.specs.declared.limits.TheConstants.{TIMEOUT}
use Rattle.transfer_base.specs.PieceLists.{IsPartOf}
use Rattle.transfer_sender.specs.Sender.{Sender, touched, ticked}
use Rattle.transfer_sender.specs.Cut.{pieces_of_window}
use Rattle.transfer_sender.specs.Answer.{answer_to, pieces_for, chunk_size, is_past_end, empty_last_piece}
use Rattle.transfer_sender.specs.Run.{Event, ask_comes, other_chunk_comes, time_passes, end_is_told, after_event, sent_at, sent, SendsParts}
use Rattle.transfer_sender.proofs.CutLaws.{cut_of_window}
use Rattle.transfer_sender.proofs.AnswerLemmas.{chunk_size-low}

window_parts : (s : Sender) (ask : Ask) (position : ℕ) →
    All (IsPartOf s.bytes) (pieces_of_window s.bytes (chunk_size ask.max_chunk) ask.window_end position)
window_parts s ask position = (cut_of_window s.bytes (chunk_size ask.max_chunk) ask.window_end position (chunk_size-low ask.max_chunk)).parts

empty_part : (resource : List ℕ) → IsPartOf resource (empty_last_piece resource)
empty_part resource = record { bytes = refl; last = refl }

pieces_parts : (s : Sender) (ask : Ask) (again at_end : Bool) → ask.again ≡ again → (ask.offset == length s.bytes) ≡ at_end →
    All (IsPartOf s.bytes) (pieces_for s ask)
pieces_parts s ask true true is_again is_at_end =
    rw (is_again, is_at_end) (All-cons (IsPartOf s.bytes) (empty_last_piece s.bytes) [] (empty_part s.bytes) (All-nil (IsPartOf s.bytes)))
pieces_parts s ask true false is_again is_at_end = rw (is_again, is_at_end) (window_parts s ask ask.offset)
pieces_parts s ask false at_end is_again is_at_end = rw is_again (window_parts s ask s.position)

answer_parts : (s : Sender) (ask : Ask) (past : Bool) → is_past_end s ask ≡ past → All (IsPartOf s.bytes) (answer_to s ask).pieces
answer_parts s ask true is_past = rw is_past (All-nil (IsPartOf s.bytes))
answer_parts s ask false is_past = rw is_past (pieces_parts s ask ask.again (ask.offset == length s.bytes) refl refl)

answer_bytes : (s : Sender) (ask : Ask) (past : Bool) → is_past_end s ask ≡ past → (answer_to s ask).after.bytes ≡ s.bytes
answer_bytes s ask true is_past = rw is_past refl
answer_bytes s ask false is_past = rw is_past refl

tick_bytes : (s : Sender) (now : ℕ) (due : Bool) → nat_le (s.active + TIMEOUT) now ≡ due → (ticked s now).bytes ≡ s.bytes
tick_bytes s now true is_due = rw is_due refl
tick_bytes s now false is_due = rw is_due refl

-- the resource stays
after_event-bytes : (s : Sender) (event : Event) → (after_event s event).bytes ≡ s.bytes
after_event-bytes s (ask_comes ask now) = answer_bytes (touched s now) ask (is_past_end (touched s now) ask) refl
after_event-bytes s (other_chunk_comes now) = refl
after_event-bytes s (time_passes now) = tick_bytes s now (nat_le (s.active + TIMEOUT) now) refl
after_event-bytes s (end_is_told status) = refl

sent_at-parts : (s : Sender) (event : Event) → All (IsPartOf s.bytes) (sent_at s event)
sent_at-parts s (ask_comes ask now) = answer_parts (touched s now) ask (is_past_end (touched s now) ask) refl
sent_at-parts s (other_chunk_comes now) = All-nil (IsPartOf s.bytes)
sent_at-parts s (time_passes now) = All-nil (IsPartOf s.bytes)
sent_at-parts s (end_is_told status) = All-nil (IsPartOf s.bytes)

parts_from : (events : List Event) (s : Sender) → All (IsPartOf s.bytes) (sent s events)
parts_from [] s = All-nil (IsPartOf s.bytes)
parts_from (event ∷ events) s =
    let P : List ℕ → Type 0 = λ resource. All (IsPartOf resource) (sent (after_event s event) events) in
    All-append (IsPartOf s.bytes) (sent_at s event) (sent (after_event s event) events) (sent_at-parts s event)
    (subst P (after_event-bytes s event) (parts_from events (after_event s event)))

pub sends_parts : SendsParts
sends_parts s events = parts_from events s
