-- Frames that carry no chunk, over links that spare them.
use Rattle.std.proofs.Common.{◌≡◌, ℕ, suc, false, List, [], ◌∷◌, ◌++◌, length, slice_get, Some, None, refl, ap, sym, ◌∙◌, subst, arith, append_assoc, length-append}
use Rattle.std.proofs.lemmas.List.{append-nil}
use Rattle.std.specs.List.{AllByRecursion}
use Rattle.link_script.specs.lossy.Link.{Link, loss_of, put}
use Rattle.rpc_ids.specs.declared.method.Role.TheVariants.{Server, Client}
use Rattle.rpc_packet.specs.declared.owned.Packet.{Packet}
use Rattle.rpc_journal.specs.declared.entry.Entry.{Entry}
use Rattle.link_laws.specs.world.Lines.{finished}
use Rattle.link_laws.specs.world.Reports.{carries_chunk}
use Rattle.link_laws.specs.world.World.{Setup, World, all_sent_by, flushed_since, with_client, with_server, wiring_of}
use Rattle.link_laws.specs.world.Wiring.{next_loss}
use Rattle.link_laws.proofs.one_run.Keeping.{sent_by}
use Rattle.link_laws.proofs.one_run.Links.{frame_of}
use Rattle.link_laws.specs.rounds.Carrying.{carrying}
use Rattle.link_laws.proofs.rounds.Carrying.{all_numbered, put_carrying}
use Rattle.link_laws.specs.plain_calls.Commands.{SparesOthers}
use Rattle.link_laws.proofs.plain_calls.Numbers.{NumbersMore, finished_numbered}

-- the packets carry no chunk
abbrev pub AreQuiet : List Packet → Type 0
AreQuiet ps = AllByRecursion (λ p. carries_chunk p ≡ false) ps

pub get_seam : {A : Type 0} (xs : List A) (y : A) (ys : List A) → slice_get (xs ++ (y ∷ ys)) (length xs) ≡ Some y
get_seam [] y ys = refl
get_seam (x ∷ xs) y ys = get_seam xs y ys

module _ (k : Setup) where
  -- the run goes on from this world to one whose frames are spared where they carry no chunk
  pub record IsSpared (w : World) : Type 0 where
    pub end : World
    pub spares : SparesOthers k end
    pub grows : NumbersMore w end

  -- before the end of the turn as behind it
  pub unfinished : (now y : World) → now ≡ finished k y → IsSpared now → IsSpared y
  unfinished now y is s = record {
    end = s.end;
    spares = s.spares;
    grows = (s.grows.0, s.grows.1 ∙ ap (λ ps. ps ++ s.grows.0) (ap (λ (x : World). x.numbered) is ∙ finished_numbered k y));
  }

  -- behind so many frames, the link does nothing to those of these packets
  abbrev pub PassAll : ℕ → List Packet → Type 0
  PassAll frames [] = Unit {0}
  PassAll frames (p ∷ ps) = (loss_of (suc frames) k.losses ≡ None) × PassAll (suc frames) ps

  pass_all : (end : World) (base qs more : List Packet) → SparesOthers k end → end.numbered ≡ (base ++ qs) ++ more → AreQuiet qs → PassAll (length base) qs
  pass_all end base [] more spares is quiet = tt
  pass_all end base (q ∷ qs) more spares is quiet =
      let there : end.numbered ≡ base ++ (q ∷ (qs ++ more)) = is ∙ append_assoc base (q ∷ qs) more in
      let next : end.numbered ≡ ((base ++ q ∷ []) ++ qs) ++ more = is ∙ ap (λ ps. ps ++ more) (sym (append_assoc base (q ∷ []) qs)) in (
        spares (length base) q (ap (λ ps. slice_get ps (length base)) there ∙ get_seam base q (qs ++ more)) quiet.0,
        subst (λ n. PassAll n qs) (omega (arith, length-append base (q ∷ []))) (pass_all end (base ++ q ∷ []) qs more spares next quiet.1),
      )

  none_next : (w : World) → loss_of (suc (length w.numbered)) k.losses ≡ None → next_loss (wiring_of k w) ≡ None
  none_next w none = ap (λ n. loss_of n k.losses) (omega arith) ∙ none

  server_carries : (qs ps : List Packet) (w : World) → PassAll (length w.numbered) qs → w.to_client ≡ carrying ps → (all_sent_by k Server qs w).to_client ≡ carrying (ps ++ qs)
  server_carries [] ps w all on = on ∙ ap carrying (sym (append-nil ps))
  server_carries (q ∷ qs) ps w all on =
      server_carries qs (ps ++ q ∷ []) (sent_by k Server w q) (subst (λ n. PassAll n qs) (omega (arith, length-append w.numbered (q ∷ []))) all.1)
      (ap (λ (l : Link). put (next_loss (wiring_of k w)) (frame_of q) l) on ∙ put_carrying ps q (next_loss (wiring_of k w)) (none_next w all.0))
      ∙ ap carrying (append_assoc ps (q ∷ []) qs)

  client_carries : (qs ps : List Packet) (w : World) → PassAll (length w.numbered) qs → w.to_server ≡ carrying ps → (all_sent_by k Client qs w).to_server ≡ carrying (ps ++ qs)
  client_carries [] ps w all on = on ∙ ap carrying (sym (append-nil ps))
  client_carries (q ∷ qs) ps w all on =
      client_carries qs (ps ++ q ∷ []) (sent_by k Client w q) (subst (λ n. PassAll n qs) (omega (arith, length-append w.numbered (q ∷ []))) all.1)
      (ap (λ (l : Link). put (next_loss (wiring_of k w)) (frame_of q) l) on ∙ put_carrying ps q (next_loss (wiring_of k w)) (none_next w all.0))
      ∙ ap carrying (append_assoc ps (q ∷ []) qs)

  -- WHAT AN END SAYS IS ON THE LINK, where it carries no chunk
  pub server_says : (v : World) (after : List Entry) (ps : List Packet) → IsSpared (with_server k v after) → AreQuiet (flushed_since k.server v.server after) → v.to_client ≡ carrying ps
      → (with_server k v after).to_client ≡ carrying (ps ++ flushed_since k.server v.server after)
  server_says v after ps s quiet on =
      let more : List Packet = flushed_since k.server v.server after in
      server_carries more ps (record v { server = after })
      (pass_all s.end v.numbered more s.grows.0 s.spares (s.grows.1 ∙ ap (λ qs. qs ++ s.grows.0) (all_numbered k Server more (record v { server = after }))) quiet) on

  pub client_says : (v : World) (after : List Entry) (ps : List Packet) → IsSpared (with_client k v after) → AreQuiet (flushed_since k.client v.client after) → v.to_server ≡ carrying ps
      → (with_client k v after).to_server ≡ carrying (ps ++ flushed_since k.client v.client after)
  client_says v after ps s quiet on =
      let more : List Packet = flushed_since k.client v.client after in
      client_carries more ps (record v { client = after })
      (pass_all s.end v.numbered more s.grows.0 s.spares (s.grows.1 ∙ ap (λ qs. qs ++ s.grows.0) (all_numbered k Client more (record v { client = after }))) quiet) on
