-- The script that a text says keeps the bounds of a world.
use Rattle.std.proofs.Common.{◌≡◌, ℕ, ◌≤◌, ◌==◌, Bool, true, false, ◌||◌, List, [], ◌∷◌, ◌++◌, None, refl, sym, subst, arith}
use Rattle.std.specs.Ordering.{nat_cmp}
use Rattle.std.specs.List.{AllByRecursion}
use Rattle.std.specs.BTreeMap.{is_at}
use Rattle.std.proofs.lemmas.Bool.{and_parts, not-true}
use Rattle.std.proofs.lemmas.Bool.Decides.{nat_tests}
use Rattle.link_io.specs.Resources.{IsOnce, found}
use Rattle.link_script.specs.declared.script.Script.{Script}
use Rattle.link_script.specs.declared.stock.Stock.{Stock}
use Rattle.link_script.specs.Script.{IsCommand, new_script}
use Rattle.rpc_ids.specs.declared.method.Role.TheVariants.{Server, Client}
use Rattle.link_script.specs.declared.text.line.Line.{Line}
use Rattle.link_script.specs.declared.text.line.Line.TheVariants as line
use Rattle.link_script.specs.declared.text.line.Setting.TheVariants.{Chunk, Window, Full, Left}
use Rattle.link_script.specs.text.Reading.{GoesOn, IsNext, IsScriptText}
use Rattle.link_script.specs.text.Standing.{has_stock, with_line}
use Rattle.text_fields.specs.Lines.{lines_of}
use Rattle.transfer_base.specs.declared.limits.TheConstants.{MAX_CHUNK, MAX_WINDOW}
use Rattle.link_laws.specs.world.Setup.{made_resources, script_chunk, script_window}
use Rattle.link_world.specs.Starting.{IsWithinBounds}

not_at : (a b : ℕ) → (b == a) ≡ false → is_at (nat_cmp a) b ≡ false
not_at a b other = grind (arith, nat_tests)

other_way : (a b : ℕ) → (a == b) ≡ false → (b == a) ≡ false
other_way a b other = grind (arith, nat_tests)

or_parts : (a b : Bool) → (a || b) ≡ false → (a ≡ false) × (b ≡ false)
or_parts true b none = absurd (true_not none)
  where
    true_not : true ≡ false → ⊥
    true_not is = absurd cc
or_parts false b none = (refl, none)

-- no number stands twice
abbrev AreOnce : List Stock → Type 0
AreOnce [] = Unit {0}
AreOnce (s ∷ stocks) = (has_stock stocks s.id ≡ false) × AreOnce stocks

has_push : (stocks : List Stock) (s : Stock) (id : ℕ) → has_stock stocks id ≡ false → (s.id == id) ≡ false → has_stock (stocks ++ s ∷ []) id ≡ false
has_push [] s id none other = rw other refl
has_push (x ∷ stocks) s id none other =
    let parts = or_parts (x.id == id) (has_stock stocks id) none in
    rw (parts.0, has_push stocks s id parts.1 other) refl

once_push : (stocks : List Stock) (s : Stock) → AreOnce stocks → has_stock stocks s.id ≡ false → AreOnce (stocks ++ s ∷ [])
once_push [] s once none = (refl, tt)
once_push (x ∷ stocks) s once none =
    let parts = or_parts (x.id == s.id) (has_stock stocks s.id) none in
    (has_push stocks s x.id once.0 (other_way x.id s.id parts.0), once_push stocks s once.1 parts.1)

not_found : (stocks : List Stock) (id : ℕ) → has_stock stocks id ≡ false → found id (made_resources stocks) ≡ None
not_found [] id none = refl
not_found (x ∷ stocks) id none =
    let parts = or_parts (x.id == id) (has_stock stocks id) none in
    rw (not_at id x.id parts.0) (not_found stocks id parts.1)

once_made : (stocks : List Stock) → AreOnce stocks → IsOnce (made_resources stocks)
once_made [] once = tt
once_made (s ∷ stocks) once = (not_found stocks s.id once.0, once_made stocks once.1)

pub all_push : {A : Type 0} (P : A → Type 0) (xs : List A) (x : A) → AllByRecursion P xs → P x → AllByRecursion P (xs ++ x ∷ [])
all_push P [] x all last = (last, tt)
all_push P (y ∷ xs) x all last = (all.0, all_push P xs x all.1 last)

-- what holds of a script behind each good line
record Keeps (s : Script) : Type 0 where
  window : (1 ≤ script_window s) × (script_window s ≤ MAX_WINDOW)
  chunk : (1 ≤ script_chunk s) × (script_chunk s ≤ MAX_CHUNK)
  server : AreOnce s.server
  client : AreOnce s.client
  left_server : AreOnce s.left_server
  left_client : AreOnce s.left_client
  commands : AllByRecursion IsCommand s.commands

keeps_first : Keeps new_script
keeps_first = record {
  window = (omega arith, omega arith);
  chunk = (omega arith, omega arith);
  server = tt;
  client = tt;
  left_server = tt;
  left_client = tt;
  commands = tt;
}

keeps_more : (s : Script) (text : List ℕ) (l : Line) → Keeps s → IsNext s text l → Keeps (with_line s l)
keeps_more s text (line.Setting (Chunk size)) k next = record {
  window = k.window;
  chunk = next.0.1;
  server = k.server;
  client = k.client;
  left_server = k.left_server;
  left_client = k.left_client;
  commands = k.commands;
}
keeps_more s text (line.Setting (Window chunks)) k next = record {
  window = next.0.1;
  chunk = k.chunk;
  server = k.server;
  client = k.client;
  left_server = k.left_server;
  left_client = k.left_client;
  commands = k.commands;
}
keeps_more s text (line.Setting (Full Server stock)) k next = record {
  window = k.window;
  chunk = k.chunk;
  server = once_push s.server stock k.server (not-true _ (and_parts _ _ (and_parts _ _ next.1).0).1);
  client = k.client;
  left_server = k.left_server;
  left_client = k.left_client;
  commands = k.commands;
}
keeps_more s text (line.Setting (Full Client stock)) k next = record {
  window = k.window;
  chunk = k.chunk;
  server = k.server;
  client = once_push s.client stock k.client (not-true _ (and_parts _ _ (and_parts _ _ next.1).0).1);
  left_server = k.left_server;
  left_client = k.left_client;
  commands = k.commands;
}
keeps_more s text (line.Setting (Left Server stock)) k next = record {
  window = k.window;
  chunk = k.chunk;
  server = k.server;
  client = k.client;
  left_server = once_push s.left_server stock k.left_server (not-true _ (and_parts _ _ next.1).1);
  left_client = k.left_client;
  commands = k.commands;
}
keeps_more s text (line.Setting (Left Client stock)) k next = record {
  window = k.window;
  chunk = k.chunk;
  server = k.server;
  client = k.client;
  left_server = k.left_server;
  left_client = once_push s.left_client stock k.left_client (not-true _ (and_parts _ _ next.1).1);
  commands = k.commands;
}
keeps_more s text (line.Loss l) k next = record {
  window = k.window;
  chunk = k.chunk;
  server = k.server;
  client = k.client;
  left_server = k.left_server;
  left_client = k.left_client;
  commands = k.commands;
}
keeps_more s text (line.Command c) k next = record {
  window = k.window;
  chunk = k.chunk;
  server = k.server;
  client = k.client;
  left_server = k.left_server;
  left_client = k.left_client;
  commands = all_push IsCommand s.commands c k.commands next.0.1;
}

keeps_all : (s : Script) (texts : List (List ℕ)) (after : Script) → Keeps s → GoesOn s texts after → Keeps after
keeps_all s [] after k same = subst Keeps (sym same) k
keeps_all s (text ∷ texts) after k goes = keeps_all (with_line s goes.0) texts after (keeps_more s text goes.0 k goes.1) goes.2

pub bounded : (text : List ℕ) (script : Script) → IsScriptText text script → IsWithinBounds script
bounded text script says =
    let k = keeps_all new_script (lines_of text) script keeps_first says in
    record {
      window = k.window;
      chunk = k.chunk;
      server = once_made script.server k.server;
      left_server = once_made script.left_server k.left_server;
      client = once_made script.client k.client;
      left_client = once_made script.left_client k.left_client;
      commands = k.commands;
    }
