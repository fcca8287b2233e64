-- What fits as a command starts.
use Rattle.std.proofs.Common.{◌≡◌, ℕ, ◌+◌, ◌<◌, ◌≤◌, ◌^◌, List, ◌∷◌, length, Some, refl, ap, sym, ◌∙◌, subst, arith}
use Rattle.std.specs.List.{AllByRecursion}
use Rattle.std.specs.Ordering.{nat_cmp}
use Rattle.std.specs.BTreeMap.{is_at}
use Rattle.link_io.specs.Resources.{Resources, found}
use Rattle.link_script.specs.declared.command.Command.{Command}
use Rattle.link_script.specs.Script.{IsCommand}
use Rattle.rpc_schedule.specs.Kept.{kept}
use Rattle.transfer_base.specs.declared.limits.TheConstants.{MAX_RESOURCE}
use Rattle.link_laws.specs.transfers_fit.Fits.{AreSmall, BeginsSmall}
use Rattle.link_laws.specs.world.Turns.{next_kind, starting}
use Rattle.link_laws.specs.world.World.{Setup, World, client_store, first_world}
use Rattle.link_laws.proofs.transfers_fit.Fitting.{stores_stay_small}
use Rattle.link_laws.proofs.transfers_fit.Stores.{WorkFits, look_up}
use Rattle.link_laws.proofs.transfers_fit.Walking.{Stands, turns_stand}
use Rattle.link_world.specs.client.ClientSide.{ClientState}
use Rattle.link_world.specs.server.ServerSide.{ServerState}
use Rattle.link_laws.specs.world.Wiring.{Wiring}
use Rattle.link_world.specs.declared.course.Course.{Course}
use Rattle.link_world.specs.Running.{ComesTo}
use Rattle.link_world.proofs.ClientLemmas.{client_items}
use Rattle.link_world.proofs.SizeLemmas.{started_coming}

-- a resource of a store that fits
pub found_small : (resource : ℕ) (bytes : List ℕ) (rows : Resources) → found resource rows ≡ Some bytes → AreSmall rows → length bytes ≤ MAX_RESOURCE
found_small resource bytes rows is all = (look_up (λ e. length e.1 ≤ MAX_RESOURCE) (is_at (nat_cmp resource)) rows bytes is all).holds

module _ (k : Setup) (commands : List Command) (small : BeginsSmall k) (all : AllByRecursion IsCommand commands) (few : length commands < 2 ^ 32) where
  first_stands : Stands k small.client (length commands) (first_world commands)
  first_stands = record {
    holds = record {
      full = small.small.full;
      left = small.small.left;
      works = subst (AllByRecursion (WorkFits 0 1 0)) (sym small.no_work) tt;
    };
    out = refl;
    coming = all;
    room = omega arith;
  }

  -- a session more has a number, and the resources of the client fit
  pub starting_fits : (s : ServerState) (c : ClientState) (x : Wiring) (d : Course) (comes : ComesTo k commands s c x d) (command : Command) (rest : List Command)
      → next_kind comes.now ≡ starting command rest → (d.sessions + 1 < 2 ^ 32) × AreSmall c.stored.full
  starting_fits s c x d comes command rest is =
      let w : World = comes.now in
      let stands = turns_stand k small.client (length commands) comes.count (first_world commands) w comes.turns first_stands in
      let coming : w.coming ≡ command ∷ rest = started_coming w.to_server.frames w.to_client.frames w.under w.coming command rest is in
      let stored : client_store k w ≡ c.stored =
      sym (comes.shows.client.stored ∙ ap (λ items. kept items k.client_store) (client_items k c w.client w.fed_client comes.shows.client)) in (
        omega (arith, few, comes.shows.course.sessions, subst (λ l. w.sessions + length l ≤ length commands) coming stands.room),
        subst (λ st. AreSmall st.full) stored (stores_stay_small k commands comes.count w small all comes.turns).full,
      )
