-- What was done of a connection, from what each step did.
use Rattle.std.proofs.Common.{◌≡◌, ◌≢◌, ℕ, zero, suc, ◌+◌, ◌-◌, ◌≤◌, List, Option, refl, subst, inl, inr, arith}
use Rattle.link_io.specs.declared.why.Why.{Why}
use Rattle.link_io.specs.declared.why.Why.TheVariants.{Source, Sink}
use Rattle.link_io.specs.Causes.{Rose}
use Rattle.link_io.specs.Links.{HandsOut, Links, TakesBack}
use Rattle.link_io.specs.Stored.{Stored}
use Rattle.rpc_frames.specs.declared.counts.Counts.{Counts}
use Rattle.rpc_journal.specs.declared.item.Item.{Item}
use Rattle.rpc_journal.specs.CallTable.{Table}
use Rattle.run_report.specs.ConnectionReport.{connection_report}
use Rattle.pw_run.specs.declared.outcome.Outcome.{Outcome}
use Rattle.pw_run.specs.declared.outcome.Outcome.TheVariants.{Done}
use Rattle.pw_run.specs.Devices.{Devices, devices}
use Rattle.pw_run.specs.LinkServed.{WritesEnded}
use Rattle.pw_run.specs.Serve.{ServesAll, ServesBy, ServesConnection, ServesInTurn, outcome_by}
use Rattle.pw_run.specs.declared.way.Way.{Way}

pub connection_ran : (by : Way) (workers number : ℕ) (left written_old written_new : Option (List ℕ)) (failed_old failed_new : ℕ) (held_old held_new : Option Stored) (links_old between links_new : Links)
    (moment_old moment_new : ℕ) (left_old sent_old left_new sent_new : Option (List ℕ)) (in_before in_faults out_before out_faults : ℕ)
    (why : Why) (counts : Counts) (table : Table) (items : List Item) (outcome : Outcome)
    → HandsOut links_old between left_old sent_old → links_old.faults ≤ between.faults → TakesBack between links_new left_new sent_new in_faults out_faults
    → in_before ≡ 0 → out_before ≡ 0
    → ServesBy by workers (record { left = left_old; sent = sent_old; held = held_old; moment = moment_old })
    (record { left = left_new; sent = sent_new; held = held_new; moment = moment_new }) why counts table items
    → (why ≡ Source → Rose in_before in_faults) → (why ≡ Sink → Rose out_before out_faults)
    → WritesEnded (connection_report number table counts why) why (outcome_by by why) written_old written_new failed_old failed_new outcome
    → ServesConnection by workers number (devices left written_old failed_old held_old links_old moment_old) (devices left written_new failed_new held_new links_new moment_new) outcome
connection_ran by workers number left written_old written_new failed_old failed_new held_old held_new links_old between links_new moment_old moment_new left_old sent_old left_new sent_new
    in_before in_faults out_before out_faults why counts table items outcome handed later taken no_in no_out serves source sink writes =
    inl (record {
      left_old = left_old;
      sent_old = sent_old;
      left_new = left_new;
      sent_new = sent_new;
      in_faults = in_faults;
      out_faults = out_faults;
      lent = record { between = between; handed = handed; later = later; taken = taken };
      why = why;
      counts = counts;
      table = table;
      items = items;
      serves = serves;
      source = λ is. subst (λ (n : ℕ). Rose n in_faults) no_in (source is);
      sink = λ is. subst (λ (n : ℕ). Rose n out_faults) no_out (sink is);
      unread = refl;
      writes = writes;
    })

-- one more connection was served to its end
pub one_more : (by : Way) (workers number : ℕ) (first before after : Devices) → 1 ≤ number → ServesAll by workers (number - 1) first before
    → ServesConnection by workers number before after Done → ServesAll by workers (number + 1 - 1) first after
one_more by workers zero first before after some all last = absurd (omega (arith, some))
one_more by workers (suc count) first before after some all last =
    let down : suc count - 1 ≡ count = omega arith in
    let up : suc count ≡ suc count + 1 - 1 = omega arith in
    subst (λ (n : ℕ). ServesAll by workers n first after) up (before, subst (λ (n : ℕ). ServesAll by workers n first before) down all, last)

-- this connection was the last one
pub stopped_at : (by : Way) (workers connections number : ℕ) (first before after : Devices) (outcome : Outcome) → 1 ≤ number → number ≤ connections
    → ServesAll by workers (number - 1) first before → ServesConnection by workers number before after outcome → outcome ≢ Done
    → ServesInTurn by workers connections first after outcome
stopped_at by workers connections zero first before after outcome some within all last stops = absurd (omega (arith, some))
stopped_at by workers connections (suc count) first before after outcome some within all last stops =
    let down : suc count - 1 ≡ count = omega arith in
    inr (record {
      served = count;
      few = omega (arith, within);
      between = before;
      first = subst (λ (n : ℕ). ServesAll by workers n first before) down all;
      last = last;
      stops = stops;
    })

-- all connections were served
pub all_served : (by : Way) (workers connections number : ℕ) (first after : Devices) → number ≡ connections + 1 → ServesAll by workers (number - 1) first after
    → ServesAll by workers connections first after
all_served by workers connections number first after is all =
    let down : number - 1 ≡ connections = omega (arith, is) in subst (λ (n : ℕ). ServesAll by workers n first after) down all
