-- What a Tick puts at a table at rest.
use Rattle.std.proofs.Common.{◌≡◌, ℕ, ◌+◌, Bool, true, false, not, ◌&&◌, List, [], ◌∷◌, None, if◌then◌else◌, refl, ap, ◌∙◌}
use Rattle.rpc_handlers.specs.declared.event.Event.TheVariants.{Tick as Ticked}
use Rattle.rpc_journal.specs.Calls.{calls, has_end}
use Rattle.rpc_journal.specs.Effect.{Deed, Opening}
use Rattle.rpc_journal.specs.Entries.{made_from, wants_tick}
use Rattle.history_laws.specs.rounds.Streams.{IsAtRest}
use Rattle.history_laws.proofs.rounds.RunLemmas.{none_left}
use Rattle.history_laws.specs.ticks.Ticks.{TicksArePut, is_ticking}

made_same : {A : Type 0} (test other : ℕ → Opening → Bool) (make : ℕ → Opening → A) → ((c : ℕ) (o : Opening) → test c o ≡ other c o) → (n : ℕ) (os : List Opening)
    → made_from n test make os ≡ made_from n other make os
made_same test other make same n [] = refl
made_same test other make same n (o ∷ os) =
    ap (λ b. if b then make n o ∷ made_from (n + 1) test make os else made_from (n + 1) test make os) (same n o)
    ∙ ap (λ xs. if other n o then make n o ∷ xs else xs) (made_same test other make same (n + 1) os)

-- where no event waits
wants_so : (ds : List Deed) → IsAtRest ds → (c : ℕ) (o : Opening) → wants_tick ds c o ≡ is_ticking ds c o
wants_so ds rest c o = rw (none_left ds c (rest.taken c)) (at (o.method.ticks && not (has_end ds c)))
  where
    at : (b : Bool) → (b && true && true) ≡ b
    at true = refl
    at false = refl

pub ticks_are_put : TicksArePut
ticks_are_put set ds t rest =
    ap (λ puts. record { opens = None; ends = []; drops = []; puts = puts; says = [] })
    (made_same (wants_tick ds) (is_ticking ds) (λ c o. (c, Ticked t)) (wants_so ds rest) 0 (calls ds))
