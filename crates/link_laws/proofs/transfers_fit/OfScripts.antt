-- A script's world begins with a small store, and so its lines with OK hold.
use Rattle.std.proofs.Common.{◌≡◌, ℕ, zero, suc, ◌≤◌, List, [], ◌∷◌, length, refl, arith}
use Rattle.std.specs.List.{AllByRecursion}
use Rattle.std.specs.Ordering.{nat_cmp}
use Rattle.link_io.specs.Resources.{Resources, with_resources}
use Rattle.link_script.specs.declared.script.Script.{Script}
use Rattle.link_script.specs.declared.stock.Stock.{Stock}
use Rattle.link_script.specs.Script.{IsStock}
use Rattle.link_script.specs.Generator.{number_behind}
use Rattle.transfer_base.specs.declared.limits.TheConstants.{MAX_RESOURCE}
use Rattle.link_laws.specs.world.Setup.{made_bytes, made_resources, setup_of}
use Rattle.link_laws.specs.okay_means_bytes.Okay.{IsDemo}
use Rattle.link_laws.proofs.okay_means_bytes.Whole.{okay_means_the_bytes, sound_throughout}
use Rattle.link_laws.specs.transfers_fit.Fits.{AreSmall, BeginsSmall}
use Rattle.link_laws.specs.transfers_fit.Scripts.{IsScript, ScriptsMeanTheBytes, SoundScriptsMeanTheBytes}
use Rattle.link_laws.proofs.transfers_fit.Fitting.{fits_throughout}
use Rattle.link_laws.proofs.transfers_fit.Sent.{runs_are_heard}
use Rattle.link_laws.proofs.transfers_fit.Stores.{insert_all}

made_length : (n x : ℕ) → length (made_bytes n x) ≡ n
made_length zero x = refl
made_length (suc n) x = omega (arith, made_length n (number_behind x))

pub made_small : (stocks : List Stock) → AllByRecursion IsStock stocks → AreSmall (made_resources stocks)
made_small [] all = tt
made_small (s ∷ stocks) all = (omega (arith, made_length s.len s.seed, all.0.len), made_small stocks all.1)

pub put_in : (es rows : Resources) → AreSmall es → AreSmall rows → AreSmall (with_resources es rows)
put_in [] rows new old = old
put_in (e ∷ es) rows new old = put_in es _ new.1 (insert_all (λ r. length r.1 ≤ MAX_RESOURCE) nat_cmp rows e.0 e.1 old new.0 (λ r small. new.0))

pub begins_small : (s : Script) → IsScript s → BeginsSmall (setup_of s)
begins_small s is = record {
  client = refl;
  small = record { full = put_in (made_resources s.client) [] (made_small s.client is.client) tt; left = put_in (made_resources s.left_client) [] (made_small s.left_client is.left_client) tt };
  no_work = refl;
}

pub is_demo : (s : Script) → IsScript s → IsDemo (setup_of s)
is_demo s is = record { rule = refl; server = refl; client = refl; window = is.window; chunk = is.chunk }

pub sound_scripts_mean_the_bytes : SoundScriptsMeanTheBytes
sound_scripts_mean_the_bytes s now is run legal sound =
    okay_means_the_bytes (setup_of s) s.commands now (is_demo s is) run legal sound (fits_throughout (setup_of s) s.commands now (begins_small s is) is.commands is.few run)

pub scripts_mean_the_bytes : ScriptsMeanTheBytes
scripts_mean_the_bytes s now is calm run legal client =
    sound_scripts_mean_the_bytes s now is run legal
    (sound_throughout (setup_of s) s.commands now calm run (runs_are_heard (setup_of s) s.commands now refl refl calm is.few run legal client))
