-- What was numbered stays so, in its order, as a run goes on.
use Rattle.std.proofs.Common.{◌≡◌, ℕ, List, [], refl, sym, ◌∙◌}
use Rattle.std.proofs.lemmas.List.{append-nil}
use Rattle.rpc_ids.specs.declared.method.Role.TheVariants.{Server, Client}
use Rattle.rpc_packet.specs.declared.owned.Packet.{Packet}
use Rattle.rpc_journal.specs.declared.entry.Entry.{Entry}
use Rattle.link_laws.specs.world.Lines.{finished}
use Rattle.link_laws.specs.world.Turns.{Turns}
use Rattle.link_laws.specs.world.World.{Setup, World, flushed_since, with_client, with_server}
use Rattle.link_laws.proofs.one_run.Along.{Grows, LeadsAlong, grows_same, grows_then, turns_lead}
use Rattle.link_laws.proofs.one_run.Keeping.{finish_keeps}
use Rattle.link_laws.proofs.rounds.Carrying.{all_numbered}

-- the packets numbered so far begin those of the later world
abbrev pub NumbersMore : World → World → Type 0
NumbersMore = Grows (λ (w : World). w.numbered)

module _ (k : Setup) where
  -- the end of a turn numbers nothing
  pub finished_numbered : (v : World) → (finished k v).numbered ≡ v.numbered
  finished_numbered v = finish_keeps k (λ x. x.numbered) (λ x lines. refl) (λ x a b. refl) v

  same_numbered : (v : World) → NumbersMore v v
  same_numbered v = grows_same (λ w. w.numbered) v

  server_numbers : (v : World) (after : List Entry) → NumbersMore v (with_server k v after)
  server_numbers v after = (flushed_since k.server v.server after, all_numbered k Server (flushed_since k.server v.server after) (record v { server = after }))

  client_numbers : (v : World) (after : List Entry) → NumbersMore v (with_client k v after)
  client_numbers v after = (flushed_since k.client v.client after, all_numbered k Client (flushed_since k.client v.client after) (record v { client = after }))

  along : LeadsAlong k NumbersMore
  along = record {
    none = same_numbered;
    both = grows_then (λ w. w.numbered);
    server = server_numbers;
    client = client_numbers;
    ends = λ v. ([], finished_numbered v ∙ sym (append-nil v.numbered));
    command = λ v rest s. same_numbered v;
    task = λ v task. same_numbered v;
    up = λ v frame rest. same_numbered v;
    down = λ v frame rest. same_numbered v;
    time = same_numbered;
  }

  -- so it is from turn to turn, whatever the link does
  pub numbered_grow : (n : ℕ) (big far : World) → Turns k n big far → NumbersMore big far
  numbered_grow = turns_lead k NumbersMore along
