-- One turn of a pair after another.
use Rattle.std.proofs.Common.{◌≡◌, ℕ, suc, ◌+◌, true, List, [], ◌∷◌, ◌++◌, length, Option, Some, None, ap, ◌∙◌}
use Rattle.transfer_words.specs.Word.{Word}
use Rattle.transfer_words.specs.Saying.{Saying, Stepped}
use Rattle.rpc_ids.specs.declared.Status.TheVariants.{Okay}
use Rattle.transfer_resume.specs.declared.stage.Stage.{Stage}
use Rattle.transfer_resume.specs.declared.stage.Stage.TheVariants as stage
use Rattle.transfer_resume.specs.Session.{Service}
use Rattle.transfer_resume.specs.Hears.{session_hears}
use Rattle.transfer_client.specs.Machine.{Rules}
use Rattle.transfer_laws.specs.pairs.Pair.{EndsSo, EndsWell, Pair, client_said, server_said, turn, words_of}

module _ {C : Type 0} (k : Service) (rules : Rules C) (now : ℕ) where
  -- one turn more in front
  pub goes_so :
      (w next : Pair C) (end : C) (session : Option Stage) (most : ℕ) → rules.end_of w.client ≡ None → turn k rules now w ≡ Some next → EndsSo k rules now next end session most →
      EndsSo k rules now w end session most
  goes_so w next end session most going e x = record {
    turns = suc x.turns;
    last = x.last;
    way = (next, (going, (e, x.way)));
    client = x.client;
    to_client = x.to_client;
    server = x.server;
    few = x.few;
  }

  pub goes :
      (w next : Pair C) (end : C) (most : ℕ) → rules.end_of w.client ≡ None → turn k rules now w ≡ Some next → EndsWell k rules now next end most →
      EndsWell k rules now w end most
  goes w next end most going e x = goes_so w next end (Some (stage.Ended Okay)) most going e x

  pub server_goes : (before after : Option Stage) (t : C) (c : Word) (rest downs ws : List Word) (ss : List Saying) (n : ℕ) →
      session_hears k true before c ≡ record { after = after; sayings = ss } → words_of ss ≡ ws →
      turn k rules now (record { server = before; client = t; to_server = c ∷ rest; to_client = downs; said = n })
      ≡ Some (record { server = after; client = t; to_server = rest; to_client = downs ++ ws; said = n + length ws })
  server_goes before after t c rest downs ws ss n e f =
      ap (λ (s : Stepped (Option Stage)). Some (server_said (record { server = before; client = t; to_server = c ∷ rest; to_client = downs; said = n }) rest s)) e
      ∙ ap (λ (vs : List Word). Some (record { server = after; client = t; to_server = rest; to_client = downs ++ vs; said = n + length vs })) f

  pub client_goes : (server : Option Stage) (before after : C) (c : Word) (rest ws : List Word) (ss : List Saying) (n : ℕ) →
      rules.hears before c now ≡ record { after = after; sayings = ss } → words_of ss ≡ ws →
      turn k rules now (record { server = server; client = before; to_server = []; to_client = c ∷ rest; said = n })
      ≡ Some (record { server = server; client = after; to_server = ws; to_client = rest; said = n + length ws })
  client_goes server before after c rest ws ss n e f =
      ap (λ (s : Stepped C). Some (client_said (record { server = server; client = before; to_server = []; to_client = c ∷ rest; said = n }) rest s)) e
      ∙ ap (λ (vs : List Word). Some (record { server = server; client = after; to_server = vs; to_client = rest; said = n + length vs })) f
