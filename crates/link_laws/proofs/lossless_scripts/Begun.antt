-- How many sessions a run has begun when it ends: those begun by now, and one for each read to come.
use Rattle.std.proofs.Common.{◌≡◌, ℕ, zero, suc, ◌+◌, ◌≤◌, min, List, [], ◌∷◌, codes, length, Option, Some, None, refl, ap, sym, ◌∙◌, subst, arith}
use Rattle.std.specs.Prelude.{cond, count_by}
use Rattle.std.proofs.lemmas.List.Sums.{sum_by-cons}
use Rattle.link_io.specs.Resources.{found}
use Rattle.link_script.specs.declared.command.Command.{Command}
use Rattle.link_script.specs.declared.command.Command.TheVariants.{Read as ReadIt, Write as WriteIt, Echo, Count, Sum, Chat, Close}
use Rattle.rpc_ids.specs.Names.{name_id}
use Rattle.rpc_journal.specs.declared.entry.Entry.{Entry}
use Rattle.rpc_journal.specs.declared.entry.EntryKind.{EntryKind}
use Rattle.rpc_journal.specs.Calls.{call_count}
use Rattle.demo_services.specs.Methods.{transfer_id}
use Rattle.transfer_client.specs.Read.{new_download}
use Rattle.transfer_client.specs.Write.{new_upload}
use Rattle.transfer_resume.specs.declared.side.Side.TheVariants.{Read}
use Rattle.link_laws.specs.world.Lines.{finished}
use Rattle.link_laws.specs.world.Starts.{left_length, live_transfers, opens_with, starts, starts_write, transfer_by, Asks, StartTurn, with_command}
use Rattle.link_laws.specs.world.Turns.{TimePasses, Turn, TurnOf, Turns, ending, kind_by, later, next_kind, starting, with_frame_at_client, with_frame_at_server}
use Rattle.link_laws.specs.world.World.{with_task, Setup, Transfer, Under, World, calling, client_deeds, client_store, closing, lacking, reads, transferring, with_client, with_server, writes}
use Rattle.link_laws.specs.plain_calls.Between.{asks_for}
use Rattle.link_laws.proofs.one_run.Keeping.{finish_keeps}
use Rattle.link_laws.proofs.one_run.Parts.{client_keeps, server_keeps}

-- the sessions that were begun, and one for each read to come
abbrev pub due : World → ℕ
due w = w.sessions + count_by (asks_for Read) w.coming

-- nothing is to come where only the end is left
pub none_coming : (w : World) → next_kind w ≡ ending → w.coming ≡ []
none_coming w last = at w.to_server.frames w.to_client.frames w.under w.coming last
  where
    at : (ups downs : List (List ℕ)) (under : Option Under) (coming : List Command) → kind_by ups downs under coming ≡ ending → coming ≡ []
    at (frame ∷ rest) downs under coming is = absurd cc
    at [] (frame ∷ rest) under coming is = absurd cc
    at [] [] None [] is = refl
    at [] [] None (command ∷ rest) is = absurd cc
    at [] [] (Some (transferring task)) coming is = absurd cc
    at [] [] (Some (lacking resource)) coming is = absurd cc
    at [] [] (Some (calling plain call)) coming is = absurd cc
    at [] [] (Some (closing channel e)) coming is = absurd cc

module _ (k : Setup) where
  finish_due : (v : World) → due (finished k v) ≡ due v
  finish_due v = finish_keeps k due (λ x lines. refl) (λ x a b. refl) v

  client_due : (b : World) (after : List Entry) → due (with_client k b after) ≡ due b
  client_due b after = client_keeps k due (λ x p. refl) b after

  server_due : (b : World) (after : List Entry) → due (with_server k b after) ≡ due b
  server_due b after = server_keeps k due (λ x p. refl) b after

  -- a transfer begins a session
  begins_one : (w : World) (live : List ℕ) (opening : EntryKind) (next : ℕ) (t : Transfer) → (transfer_by w live opening next t).sessions ≡ w.sessions + 1
  begins_one w [] opening next t = refl
  begins_one w (c ∷ cs) opening next t = refl

  pub write_begins : (w : World) (resource offset : ℕ) (bytes : List ℕ) → found resource (client_store k w).full ≡ Some bytes → (starts k w (WriteIt resource offset)).sessions ≡ w.sessions + 1
  write_begins w resource offset bytes has =
      let ds = client_deeds k w in
      let found_so : starts k w (WriteIt resource offset) ≡ starts_write k w resource offset (Some bytes) = ap (starts_write k w resource offset) has in
      ap (λ s. s.sessions) found_so
      ∙ begins_one w (live_transfers (name_id (codes "Write")) ds) (opens_with transfer_id (name_id (codes "Write")) [] ds) (call_count ds) (writes (new_upload resource bytes (min offset (length bytes))))

  pub read_begins : (w : World) (resource offset : ℕ) → (starts k w (ReadIt resource offset)).sessions ≡ w.sessions + 1
  read_begins w resource offset =
      let ds = client_deeds k w in
      begins_one w (live_transfers (name_id (codes "Read")) ds) (opens_with transfer_id (name_id (codes "Read")) [] ds) (call_count ds) (reads (new_download resource (min offset (left_length k w resource)) k.window k.chunk))

  -- a start begins one for a read at least
  start_begins : (w : World) (command : Command) → w.sessions + cond (asks_for Read command) 1 0 ≤ (starts k w command).sessions
  start_begins w (ReadIt resource offset) = omega (arith, read_begins w resource offset)
  start_begins w (WriteIt resource offset) = by_bytes (found resource (client_store k w).full)
    where
      by_bytes : (o : Option (List ℕ)) → w.sessions + 0 ≤ (starts_write k w resource offset o).sessions
      by_bytes None = omega arith
      by_bytes (Some bytes) =
          let ds = client_deeds k w in
          let one : (starts_write k w resource offset (Some bytes)).sessions ≡ w.sessions + 1
          = begins_one w (live_transfers (name_id (codes "Write")) ds) (opens_with transfer_id (name_id (codes "Write")) [] ds) (call_count ds) (writes (new_upload resource bytes (min offset (length bytes)))) in
          omega (arith, one)
  start_begins w (Echo bytes) = omega arith
  start_begins w (Count n) = omega arith
  start_begins w (Sum bytes) = omega arith
  start_begins w (Chat bytes) = omega arith
  start_begins w (Close channel) = omega arith

  -- what is due behind a start
  asks_due : (w now : World) (command : Command) (rest : List Command) → Asks k w command rest now → due now ≡ (starts k w command).sessions + count_by (asks_for Read) rest
  asks_due w now command rest t =
      let b : World = with_task t.task (with_command w rest (starts k w command)) in
      ap due t.is ∙ (finish_due (with_client k b t.after) ∙ client_due b t.after)

  starts_due : (w now : World) (command : Command) (rest : List Command) → StartTurn k w command rest now → due now ≡ (starts k w command).sessions + count_by (asks_for Read) rest
  starts_due w now (Close channel) rest t =
      let b : World = with_command w rest (starts k w (Close channel)) in
      ap due t.is ∙ (finish_due (with_server k b t.after) ∙ server_due b t.after)
  starts_due w now (ReadIt resource offset) rest t = asks_due w now (ReadIt resource offset) rest t
  starts_due w now (WriteIt resource offset) rest t = asks_due w now (WriteIt resource offset) rest t
  starts_due w now (Echo bytes) rest t = asks_due w now (Echo bytes) rest t
  starts_due w now (Count n) rest t = asks_due w now (Count n) rest t
  starts_due w now (Sum bytes) rest t = asks_due w now (Sum bytes) rest t
  starts_due w now (Chat bytes) rest t = asks_due w now (Chat bytes) rest t

  time_due : (w now : World) → TimePasses k w now → due w ≤ due now
  time_due w now t =
      let b : World = with_task t.task (later w) in
      let c : World = with_client k b t.client in
      omega (arith, ap due t.is, finish_due (with_server k c t.server), server_due c t.server, client_due b t.client)

  -- no turn makes it less
  turn_due : (w now : World) → Turn k w now → due w ≤ due now
  turn_due w now turn = by_kind w.to_server.frames w.to_client.frames w.under w.coming refl turn
    where
      by_kind : (ups downs : List (List ℕ)) (under : Option Under) (coming : List Command) → w.coming ≡ coming → TurnOf k w (kind_by ups downs under coming) now → due w ≤ due now
      by_kind (frame ∷ rest) downs under coming c t =
          let b : World = with_frame_at_server w frame rest in
          omega (arith, ap due t.is, finish_due (with_server k b t.after), server_due b t.after)
      by_kind [] (frame ∷ rest) under coming c t =
          let b : World = with_task t.task (with_frame_at_client w frame rest) in
          omega (arith, ap due t.is, finish_due (with_client k b t.after), client_due b t.after)
      by_kind [] [] None [] c t = absurd t
      by_kind [] [] None (command ∷ rest) c t =
          omega (
            arith,
            starts_due w now command rest t,
            start_begins w command,
            ap (λ cs. w.sessions + count_by (asks_for Read) cs) c,
            sum_by-cons (λ x. cond (asks_for Read x) 1 0) command rest,
          )
      by_kind [] [] (Some (transferring task)) coming c t = time_due w now t
      by_kind [] [] (Some (lacking resource)) coming c t = time_due w now t
      by_kind [] [] (Some (calling plain call)) coming c t = omega (arith, ap due t.is, finish_due (with_client k w t.after), client_due w t.after)
      by_kind [] [] (Some (closing channel e)) coming c t = time_due w now t

  pub turns_due : (n : ℕ) (w now : World) → Turns k n w now → due w ≤ due now
  turns_due zero w now same = omega (arith, ap due same)
  turns_due (suc n) w now turns = omega (arith, turn_due w turns.0 turns.1.turn, turns_due n turns.0 now turns.2)

  -- at the end of a run that goes on with this start
  pub start_counts : (n : ℕ) (w end : World) (command : Command) (rest : List Command) → Turns k n w end → next_kind end ≡ ending → next_kind w ≡ starting command rest
      → (starts k w command).sessions + count_by (asks_for Read) rest ≤ end.sessions
  start_counts zero w end command rest same last kind = absurd (never (sym kind ∙ (ap next_kind same ∙ last)))
    where
      never : starting command rest ≡ ending → ⊥
      never is = cc
  start_counts (suc n) w end command rest turns last kind =
      omega (
        arith,
        starts_due w turns.0 command rest (subst (λ kind. TurnOf k w kind turns.0) kind turns.1.turn),
        turns_due n turns.0 end turns.2,
        ap (λ cs. end.sessions + count_by (asks_for Read) cs) (none_coming end last),
      )
