-- The client's store stays small in a run, and each transfer fits that starts.
use Rattle.std.proofs.Common.{◌≡◌, ℕ, zero, suc, ◌+◌, ◌<◌, ◌≤◌, ◌^◌, min, List, [], ◌∷◌, codes, length, Option, Some, None, refl, sym, subst, arith}
use Rattle.std.specs.List.{AllByRecursion}
use Rattle.std.specs.BTreeMap.{is_at}
use Rattle.std.specs.Ordering.{nat_cmp}
use Rattle.link_io.specs.Resources.{Resources, found}
use Rattle.link_script.specs.declared.command.Command.{Command}
use Rattle.link_script.specs.declared.command.Command.TheVariants.{Read, Write, Echo, Count, Sum, Chat, Close}
use Rattle.link_script.specs.Script.{IsCommand}
use Rattle.rpc_ids.specs.Names.{name_id}
use Rattle.rpc_ids.specs.declared.method.Role.TheVariants.{Client}
use Rattle.rpc_journal.specs.declared.entry.EntryKind.{EntryKind}
use Rattle.rpc_schedule.specs.Kept.{kept}
use Rattle.transfer_base.specs.declared.limits.TheConstants.{MAX_RESOURCE}
use Rattle.transfer_client.specs.Read.{new_download}
use Rattle.transfer_client.specs.Write.{new_upload}
use Rattle.link_laws.specs.world.Starts.{left_length, live_transfers, starts, starts_write, transfer_by}
use Rattle.link_laws.specs.world.Turns.{Turns, kind_by}
use Rattle.link_laws.specs.world.World.{task_under, Setup, Transfer, Under, World, calling, client_deeds, client_store, closing, first_world, lacking, reads, transferring, writes}
use Rattle.link_laws.specs.okay_means_bytes.Okay.{FitsStart, FitsTask, FitsTransfer, NextFits, OnTheWay}
use Rattle.link_laws.proofs.okay_means_bytes.Lines.{all_flushed}
use Rattle.link_laws.specs.transfers_fit.Fits.{AreSmall, BeginsSmall, FitsThroughout, IsSmall, StoresStaySmall}
use Rattle.link_laws.proofs.transfers_fit.Stores.{StoreFits, WorkFits, look_up}
use Rattle.link_laws.proofs.transfers_fit.Added.{stored_by}
use Rattle.link_laws.proofs.transfers_fit.Walking.{Stands, idle, turn_step, turns_stand}

module _ (k : Setup) (begins_small : BeginsSmall k) where
  abbrev role : k.client.role ≡ Client
  role = begins_small.client

  module _ (total : ℕ) where
    first_stands : (commands : List Command) → AllByRecursion IsCommand commands → length commands ≤ total → Stands k role total (first_world commands)
    first_stands commands all room = record {
      holds = record {
        full = begins_small.small.full;
        left = begins_small.small.left;
        works = subst (AllByRecursion (WorkFits 0 1 0)) (sym begins_small.no_work) tt;
      };
      out = refl;
      coming = all;
      room = omega (arith, room);
    }

    small_at : (w : World) → Stands k role total w → IsSmall (client_store k w)
    small_at w s =
        let fits : StoreFits w.sessions (w.sessions + 1) 0 (stored_by k.client role k.client_store w.client) = idle k role w.sessions w.client (task_under w.under) s.holds in
        subst (λ items. IsSmall (kept items k.client_store)) (sym (all_flushed k.client w.client s.out)) (record { full = fits.full; left = fits.left })

    found_small : (resource : ℕ) (bytes : List ℕ) (rows : Resources) → found resource rows ≡ Some bytes → AreSmall rows → length bytes ≤ MAX_RESOURCE
    found_small resource bytes rows is all = (look_up (λ e. length e.1 ≤ MAX_RESOURCE) (is_at (nat_cmp resource)) rows bytes is all).holds

    module _ (w : World) (few : total < 2 ^ 32) (session : w.sessions + 1 ≤ total) (small : IsSmall (client_store k w)) where
      transfer_fits : (l : List ℕ) (opening : EntryKind) (next : ℕ) (t : Transfer) → FitsTransfer t → FitsTask (task_under (Some (transfer_by w l opening next t).under))
      transfer_fits [] opening next t fits = (omega (arith, few, session), fits)
      transfer_fits (c ∷ cs) opening next t fits = (omega (arith, few, session), fits)

      start_fits : (command : Command) → IsCommand command → FitsTask (task_under (Some (starts k w command).under))
      start_fits (Read resource offset) fits =
          transfer_fits (live_transfers (name_id (codes "Read")) (client_deeds k w)) _ _ (reads (new_download resource (min offset (left_length k w resource)) k.window k.chunk)) (fits.0, omega (arith, fits.1))
      start_fits (Write resource offset) fits = by_bytes (found resource (client_store k w).full) refl
        where
          by_bytes : (o : Option (List ℕ)) → found resource (client_store k w).full ≡ o → FitsTask (task_under (Some (starts_write k w resource offset o).under))
          by_bytes None e = tt
          by_bytes (Some bytes) e =
              transfer_fits (live_transfers (name_id (codes "Write")) (client_deeds k w)) _ _ (writes (new_upload resource bytes (min offset (length bytes))))
              (fits.0, found_small resource bytes (client_store k w).full e small.full)
      start_fits (Echo bytes) fits = tt
      start_fits (Count n) fits = tt
      start_fits (Sum bytes) fits = tt
      start_fits (Chat bytes) fits = tt
      start_fits (Close channel) fits = tt

    next_fits : (w : World) → total < 2 ^ 32 → Stands k role total w → NextFits k w
    next_fits w few s = by_kind w.to_server.frames w.to_client.frames w.under w.coming refl
      where
        by_kind : (ups downs : List (List ℕ)) (under : Option Under) (coming : List Command) → w.coming ≡ coming → FitsStart k w (kind_by ups downs under coming)
        by_kind (frame ∷ rest) downs under coming c = tt
        by_kind [] (frame ∷ rest) under coming c = tt
        by_kind [] [] None [] c = tt
        by_kind [] [] None (command ∷ rest) c =
            start_fits w few (omega (arith, subst (λ l. w.sessions + length l ≤ total) c s.room)) (small_at w s) command (subst (AllByRecursion IsCommand) c s.coming).0
        by_kind [] [] (Some (transferring task)) coming c = tt
        by_kind [] [] (Some (lacking resource)) coming c = tt
        by_kind [] [] (Some (calling plain call)) coming c = tt
        by_kind [] [] (Some (closing channel e)) coming c = tt

    fits_on : (n : ℕ) (w now : World) (turns : Turns k n w now) → total < 2 ^ 32 → Stands k role total w → OnTheWay k (NextFits k) n w now turns
    fits_on zero w now same few s = next_fits w few s
    fits_on (suc n) w now turns few s = (next_fits w few s, fits_on n turns.0 now turns.2 few (turn_step k role total w turns.0 turns.1.turn s))

pub stores_stay_small : StoresStaySmall
stores_stay_small k commands count w begins_small all turns =
    small_at k begins_small (length commands) w (turns_stand k begins_small.client (length commands) count (first_world commands) w turns (first_stands k begins_small (length commands) commands all (omega arith)))

pub fits_throughout : FitsThroughout
fits_throughout k commands now begins_small all few run =
    fits_on k begins_small (length commands) run.count (first_world commands) run.before run.turns few (first_stands k begins_small (length commands) commands all (omega arith))
