-- Computed rows: short transfers of 7 bytes, in chunks of 2 and a window of 4, that lose the words of some numbers, and the rounds
-- that are lossy in them.
use Rattle.std.specs.Prelude.{◌≡◌, ℕ, Bool, true, false, List, [], ◌∷◌, map, Option, Some}
use Rattle.std.proofs.Common.{refl}
use Rattle.rpc_ids.specs.declared.Status.{Status}
use Rattle.rpc_ids.specs.declared.Status.TheVariants.{Okay, DeadlineExceeded}
use Rattle.transfer_sender.specs.Cut.{pieces_up_to}
use Rattle.transfer_resume.specs.declared.side.Side.TheVariants.{Read, Write}
use Rattle.transfer_resume.specs.Session.{Service}
use Rattle.transfer_client.specs.Machine.{Rules}
use Rattle.transfer_client.specs.Read.{new_download, read_rules}
use Rattle.transfer_client.specs.Write.{new_upload, write_rules}
use Rattle.transfer_laws.specs.losses.Drops.{Lost, LossyPair, begun, steps}
use Rattle.transfer_laws.specs.losses.GivesUp.{progress_at}
use Rattle.transfer_laws.specs.losses.Rounds.{is_lossy}
use Rattle.transfer_laws.specs.losses.Survives.{is_among}

abbrev bytes : List ℕ
bytes = 1 ∷ 2 ∷ 3 ∷ 4 ∷ 5 ∷ 6 ∷ 7 ∷ []

-- the client's end, how many words were said, and the moment
record Row : Type 0 where
  end : Option Status
  said : ℕ
  now : ℕ

abbrev row_of : {C : Type 0} → Rules C → LossyPair C → Row
row_of rules w = record { end = rules.end_of w.pair.client; said = w.pair.said; now = w.now }

-- behind so many steps
abbrev read_row : ℕ → List ℕ → Row
read_row count lost =
    let service : Service = record { side = Read; shelf = record { full = (7, bytes) ∷ []; left = [] }; window = 4; chunk = 256; time = 0 } in
    row_of read_rules (steps service read_rules (is_among lost) count (begun service read_rules (is_among lost) 0 0 (new_download 7 0 4 2)))

abbrev write_row : ℕ → List ℕ → Row
write_row count lost =
    let service : Service = record { side = Write; shelf = record { full = []; left = [] }; window = 4; chunk = 2; time = 0 } in
    row_of write_rules (steps service write_rules (is_among lost) count (begun service write_rules (is_among lost) 0 0 (new_upload 7 bytes 0)))

-- nothing is lost
read_whole : read_row 16 ([]) ≡ record { end = Some Okay; said = 10; now = 0 }
unfolding pieces_up_to
read_whole = refl

-- how far it has come behind each step: the second hears START_ACK, and the pieces of 2, 2, 2 and 1 bytes come at the fourth and after
abbrev progress_after : ℕ → ℕ
progress_after count =
    let service : Service = record { side = Read; shelf = record { full = (7, bytes) ∷ []; left = [] }; window = 4; chunk = 256; time = 0 } in
    progress_at (steps service read_rules (λ number. false) count (begun service read_rules (λ number. false) 0 0 (new_download 7 0 4 2))).pair.client.stage

read_progress : map progress_after (0 ∷ 1 ∷ 2 ∷ 3 ∷ 4 ∷ 5 ∷ 6 ∷ 7 ∷ 8 ∷ []) ≡ 0 ∷ 0 ∷ 1 ∷ 1 ∷ 3 ∷ 5 ∷ 5 ∷ 7 ∷ 9 ∷ []
unfolding pieces_up_to
read_progress = refl

-- START three times
read_starts : read_row 24 (1 ∷ 2 ∷ 3 ∷ []) ≡ record { end = Some Okay; said = 13; now = 6000 }
unfolding pieces_up_to
read_starts = refl

-- and a fourth time
read_four_starts : read_row 24 (1 ∷ 2 ∷ 3 ∷ 4 ∷ []) ≡ record { end = Some DeadlineExceeded; said = 4; now = 8000 }
unfolding pieces_up_to
read_four_starts = refl

-- START_ACK
read_start_ack : read_row 24 (2 ∷ []) ≡ record { end = Some Okay; said = 12; now = 2000 }
unfolding pieces_up_to
read_start_ack = refl

-- the confirmation, which is never sent again
read_confirmation : read_row 30 (3 ∷ []) ≡ record { end = Some DeadlineExceeded; said = 8; now = 8000 }
unfolding pieces_up_to
read_confirmation = refl

-- the second chunk
read_data : read_row 30 (5 ∷ []) ≡ record { end = Some Okay; said = 15; now = 0 }
unfolding pieces_up_to
read_data = refl

-- CONTINUE, which asks for no more than was sent
read_continue : read_row 30 (8 ∷ []) ≡ record { end = Some Okay; said = 10; now = 0 }
unfolding pieces_up_to
read_continue = refl

-- the end, and its acknowledgement twice
read_end : read_row 30 (9 ∷ 11 ∷ 13 ∷ []) ≡ record { end = Some Okay; said = 15; now = 6000 }
unfolding pieces_up_to
read_end = refl

-- nothing is lost
write_whole : write_row 16 ([]) ≡ record { end = Some Okay; said = 11; now = 0 }
unfolding pieces_up_to
write_whole = refl

-- the confirmation
write_confirmation : write_row 24 (3 ∷ []) ≡ record { end = Some Okay; said = 12; now = 2000 }
unfolding pieces_up_to
write_confirmation = refl

-- the first parameters, and the confirmation that is sent again
write_parameters : write_row 24 (4 ∷ 5 ∷ []) ≡ record { end = Some Okay; said = 14; now = 2000 }
unfolding pieces_up_to
write_parameters = refl

-- two chunks, and what is asked again
write_data : write_row 30 (5 ∷ 7 ∷ 9 ∷ []) ≡ record { end = Some Okay; said = 19; now = 2000 }
unfolding pieces_up_to
write_data = refl

-- the end
write_end : write_row 30 (10 ∷ []) ≡ record { end = Some Okay; said = 12; now = 2000 }
unfolding pieces_up_to
write_end = refl

-- the acknowledgement: the client has ended all the same
write_acknowledged : write_row 30 (11 ∷ []) ≡ record { end = Some Okay; said = 11; now = 0 }
unfolding pieces_up_to
write_acknowledged = refl

-- THE FIRST FIVE ROUNDS of a transfer that begins at 0: which of them are lossy
abbrev rounds_of : List Lost → List Bool
rounds_of lost = map (is_lossy lost) (0 ∷ 2000 ∷ 4000 ∷ 6000 ∷ 8000 ∷ [])

abbrev read_rounds : ℕ → List ℕ → List Bool
read_rounds count lost =
    let service : Service = record { side = Read; shelf = record { full = (7, bytes) ∷ []; left = [] }; window = 4; chunk = 256; time = 0 } in
    rounds_of (steps service read_rules (is_among lost) count (begun service read_rules (is_among lost) 0 0 (new_download 7 0 4 2))).lost

-- nothing is lost: each is clean
rounds_whole : read_rounds 16 ([]) ≡ false ∷ false ∷ false ∷ false ∷ false ∷ []
unfolding pieces_up_to
rounds_whole = refl

-- START and START_ACK, in two rounds
rounds_starts : read_rounds 24 (1 ∷ 3 ∷ []) ≡ true ∷ true ∷ false ∷ false ∷ false ∷ []
unfolding pieces_up_to
rounds_starts = refl

-- all four chunks are lost in one round, the next two in the second one, and the next one in the third: seven words, three rounds
rounds_burst : read_rounds 40 (4 ∷ 5 ∷ 6 ∷ 7 ∷ 9 ∷ 10 ∷ 12 ∷ []) ≡ true ∷ true ∷ true ∷ false ∷ false ∷ []
unfolding pieces_up_to
rounds_burst = refl

-- and it ends OK in the fourth, which is clean
read_burst : (read_row 40 (4 ∷ 5 ∷ 6 ∷ 7 ∷ 9 ∷ 10 ∷ 12 ∷ [])).end ≡ Some Okay
unfolding pieces_up_to
read_burst = refl

-- four lossy rounds: it is given up
rounds_four : read_rounds 24 (1 ∷ 2 ∷ 3 ∷ 4 ∷ []) ≡ true ∷ true ∷ true ∷ true ∷ false ∷ []
unfolding pieces_up_to
rounds_four = refl

-- a lost confirmation: one lossy round, and three clean ones in which nothing comes of it
rounds_confirmation : read_rounds 30 (3 ∷ []) ≡ true ∷ false ∷ false ∷ false ∷ false ∷ []
unfolding pieces_up_to
rounds_confirmation = refl

-- EACH BOUND OF THE TIME IS MET, by transfers of one chunk of 8: the read takes 10 turns, the write 12 with OK and 14 else
abbrev slow_read : ℕ → List ℕ → Row
slow_read count lost =
    let service : Service = record { side = Read; shelf = record { full = (7, bytes) ∷ []; left = [] }; window = 4; chunk = 256; time = 0 } in
    row_of read_rules (steps service read_rules (is_among lost) count (begun service read_rules (is_among lost) 0 0 (new_download 7 0 4 8)))

abbrev slow_write : ℕ → List ℕ → Row
slow_write count lost =
    let service : Service = record { side = Write; shelf = record { full = []; left = [] }; window = 4; chunk = 8; time = 0 } in
    row_of write_rules (steps service write_rules (is_among lost) count (begun service write_rules (is_among lost) 0 0 (new_upload 7 bytes 0)))

-- START three times, the chunk and what asks for it again twice, the end four times
read_takes_long : slow_read 40 (1 ∷ 2 ∷ 3 ∷ 7 ∷ 8 ∷ 9 ∷ 12 ∷ 13 ∷ 14 ∷ 15 ∷ []) ≡ record { end = Some Okay; said = 15; now = 20000 }
unfolding pieces_up_to
read_takes_long = refl

-- so here, the confirmation three times before that, and the end three times
write_takes_long : slow_write 40 (1 ∷ 2 ∷ 3 ∷ 6 ∷ 7 ∷ 8 ∷ 11 ∷ 12 ∷ 13 ∷ 16 ∷ 17 ∷ 18 ∷ []) ≡ record { end = Some Okay; said = 20; now = 24000 }
unfolding pieces_up_to
write_takes_long = refl

-- the end a fourth time: the service has all, and the client waits for two more turns
write_is_not_told : slow_write 40 (1 ∷ 2 ∷ 3 ∷ 6 ∷ 7 ∷ 8 ∷ 11 ∷ 12 ∷ 13 ∷ 16 ∷ 17 ∷ 18 ∷ 19 ∷ []) ≡ record { end = Some DeadlineExceeded; said = 21; now = 28000 }
unfolding pieces_up_to
write_is_not_told = refl
