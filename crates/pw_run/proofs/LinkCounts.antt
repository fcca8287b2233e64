-- How often the ends of links failed while connections were served.
use Rattle.std.proofs.Common.{◌≡◌, ◌⊎◌, ℕ, zero, suc, ◌-◌, ◌^◌, ◌≤◌, List, Option, sym, subst, inl, inr, arith}
use Rattle.std.specs.Prelude.{min}
use Rattle.link_io.specs.Causes.{Rose, summed}
use Rattle.link_io.specs.Links.{KeepsLinks, Links}
use Rattle.pw_run.specs.declared.outcome.Outcome.TheVariants.{Done}
use Rattle.pw_run.specs.Devices.{Devices}
use Rattle.pw_run.specs.Serve.{Lends, ServesAll, ServesConnection}
use Rattle.pw_run.specs.declared.way.Way.{Way}

-- No count fell. Those of the ends handed back stop at the last number of 64 bits.
pub record CountsOn (old new : Links) : Type 0 where
  pub linker : old.faults ≤ new.faults
  pub source : min old.in_faults (2 ^ 64 - 1) ≤ new.in_faults
  pub sink : min old.out_faults (2 ^ 64 - 1) ≤ new.out_faults

pub counts_self : (links : Links) → CountsOn links links
counts_self links = record { linker = omega arith; source = omega arith; sink = omega arith }

counts_trans : (a b c : Links) → CountsOn a b → CountsOn b c → CountsOn a c
counts_trans a b c p q = record {
  linker = omega (arith, p.linker, q.linker);
  source = omega (arith, p.source, q.source);
  sink = omega (arith, p.sink, q.sink);
}

pub counts_kept : (a b : Links) → a.faults ≤ b.faults → KeepsLinks a b → CountsOn a b
counts_kept a b later kept = record { linker = later; source = omega (arith, kept.in_faults); sink = omega (arith, kept.out_faults) }

lent_on : (old new : Links) (left_old sent_old left_new sent_new : Option (List ℕ)) (in_faults out_faults : ℕ)
    → Lends old new left_old sent_old left_new sent_new in_faults out_faults → CountsOn old new
lent_on old new left_old sent_old left_new sent_new in_faults out_faults lent = record {
  linker = omega (arith, lent.later, lent.taken.faults);
  source = omega (arith, lent.taken.in_faults, lent.handed.in_faults);
  sink = omega (arith, lent.taken.out_faults, lent.handed.out_faults);
}

done_on : (by : Way) (workers number : ℕ) (before after : Devices) → ServesConnection by workers number before after Done → CountsOn before.links after.links
done_on by workers number before after (inl ran) =
    lent_on before.links after.links ran.left_old ran.sent_old ran.left_new ran.sent_new ran.in_faults ran.out_faults ran.lent
done_on by workers number before after (inr (inl back)) = lent_on before.links after.links back.left back.sent back.left back.sent 0 0 back.lent
done_on by workers number before after (inr (inr fails)) = absurd (cc (fails.fault))

-- connections that were served in turn
pub served_on : (by : Way) (workers count : ℕ) (before after : Devices) → ServesAll by workers count before after → CountsOn before.links after.links
served_on by workers zero before after same = subst (λ (d : Devices). CountsOn before.links d.links) (sym same) (counts_self before.links)
served_on by workers (suc count) before after (between, first, last) =
    counts_trans before.links between.links after.links (served_on by workers count before between first) (done_on by workers (suc count) between after last)

-- a count that rose behind them rose
pub rose_on : (first before now : ℕ) → min first (2 ^ 64 - 1) ≤ before → Rose before now → Rose first now
rose_on first before now on rose = omega (arith, on, rose)

pub rose_later : (first before now : ℕ) → first ≤ before → Rose before now → Rose first now
rose_later first before now later rose = omega (arith, later, rose)

-- the count of a linker whose end failed rose
pub end_rose : (old between new count : ℕ) → between ≡ old → new ≡ summed between count → Rose 0 count → Rose old new
end_rose old between new count handed taken rose = omega (arith, handed, taken, rose)

-- the same of either of two counts
pub either_rose : (a b c x y z : ℕ) → min a (2 ^ 64 - 1) ≤ b → x ≤ y → Rose b c ⊎ Rose y z → Rose a c ⊎ Rose x z
either_rose a b c x y z on later (inl rose) = inl (rose_on a b c on rose)
either_rose a b c x y z on later (inr rose) = inr (rose_later x y z later rose)
