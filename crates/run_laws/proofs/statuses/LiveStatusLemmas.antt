-- How a run on threads ends where no device fails.
use Rattle.std.proofs.Common.{◌≡◌, ◌≢◌, ◌⊎◌, ℕ, zero, suc, ◌+◌, ◌-◌, ◌<◌, List, [], ◌∷◌, ◌++◌, length, take, Result, Ok, Err, Option, Some, None, refl, ap, sym, ◌∙◌, subst, inl, inr, arith, append_assoc, length-append}
use Rattle.std.specs.Io.KnownBytes.{Consumes}
use Rattle.link_io.specs.declared.why.Why.{Why}
use Rattle.link_io.specs.declared.why.Why.TheVariants as reason
use Rattle.link_io.specs.Links.{Ends, HandsOut, Links}
use Rattle.link_io.specs.Stored.{shelf_of}
use Rattle.rpc_frames.specs.declared.counts.Counts.{Counts}
use Rattle.rpc_ids.specs.declared.status.Status.{Status}
use Rattle.rpc_ids.specs.declared.status.Status.TheVariants.{Okay}
use Rattle.rpc_journal.specs.declared.item.Item.{Item}
use Rattle.rpc_journal.specs.CallTable.{Table}
use Rattle.rpc_schedule.specs.declared.stream.TheConstants.{INPUT_LIMIT}
use Rattle.frame_router.specs.declared.port.Port.{Port}
use Rattle.frame_router.specs.declared.pumping.Pumped.{Pumped}
use Rattle.frame_router.specs.declared.routes.Route.{Route}
use Rattle.frame_router.specs.Pumped.{Pumps}
use Rattle.frame_router.specs.bridge.Bridges.{Bridges, bridge_routes, first_reason, reason_of}
use Rattle.frame_router.specs.bridge.Printed.{bridge_text}
use Rattle.live_client.specs.declared.ask.Live.{Live}
use Rattle.live_client.specs.declared.ask.LiveAsk.{LiveAsk}
use Rattle.run_report.specs.declared.live_report.LiveLine.{LiveLine}
use Rattle.run_report.specs.ConnectionReport.{connection_report}
use Rattle.run_report.specs.LiveReport.{live_line, live_report}
use Rattle.pw_run.specs.declared.client_command.ClientCommand.{ClientCommand}
use Rattle.pw_run.specs.declared.client_text.Reported.{Reported}
use Rattle.pw_run.specs.declared.client_text.Reported.TheVariants.{Line}
use Rattle.pw_run.specs.declared.live_command.LiveCommand.TheVariants.{Crew, Serve, Host, Bridge, Client}
use Rattle.pw_run.specs.declared.live_command.TheConstants.{MAX_HOSTED}
use Rattle.pw_run.specs.declared.outcome.Outcome.{Outcome}
use Rattle.pw_run.specs.declared.outcome.Outcome.TheVariants.{Done, NoMemory, BadWords, SourceFault, SinkFault, StoreFault, LinkFault, BadLine, InputLimit, JournalLimit, FrameLimit, NotOkay}
use Rattle.pw_run.specs.declared.way.Way.TheVariants as way
use Rattle.pw_run.specs.Bridge.{DidBridge}
use Rattle.pw_run.specs.Client.{AsksOverLink, DidClient, DoesAsked, DoesFoundOrNothing, RunsClient, WritesClient, WritesText, asked, client_outcome, ended_outcome, text_of}
use Rattle.pw_run.specs.Crew.{DidCrew, RunsCrew}
use Rattle.pw_run.specs.Devices.{Devices, LinkDevices, with_link}
use Rattle.pw_run.specs.LinkServed.{FindsNoShelf, ServesLink, ServesListed, WritesEnded, WritesServed}
use Rattle.pw_run.specs.Live.{DidLive}
use Rattle.pw_run.specs.Outcome.{code_of, hosted_outcome, outcome_for}
use Rattle.pw_run.specs.Serve.{DidHost, DidServe, RunsConnection, ServesAll, ServesConnection, StopsServing}
use Rattle.pw_run.specs.Writes.{Writes}
use Rattle.run_laws.specs.statuses.ClientEnds.{Asks, EndedOkay}
use Rattle.run_laws.specs.statuses.Statuses.{AreShort, AreShortUpTo, AsksNothing, BridgeHadRoom, ClientFills, ClientHadRoom, CrewFills, CrewHadRoom, HasShortLinks, IsFull, IsWell, LiveEndWell, ServeFills, ServeHadRoom}
use Rattle.run_laws.proofs.statuses.ClientEndLemmas.{okay_is_okay}
use Rattle.run_laws.proofs.statuses.CrewLemmas.{all_taken, settled_well, shelf_is}
use Rattle.run_laws.proofs.statuses.StatusLemmas.{Blameless, EndsSo, blameless, done_of, not_all, only_writes, own_done, own_outcome, well}

-- a run ended so, or its journal was full and it filled it so
abbrev SoOrFull : Outcome → Type 0 → Type 0
SoOrFull outcome Fills = EndsSo outcome ⊎ ((outcome ≡ JournalLimit) × Fills)

told_so : {Fills : Type 0} (status : ℕ) (outcome : Outcome) → status ≡ code_of outcome → SoOrFull outcome Fills → IsWell status ⊎ (IsFull status × Fills)
told_so status outcome is (inl so) = inl (well status outcome is so)
told_so status outcome is (inr full) = inr (is ∙ ap code_of full.0, full.1)

-- what was written of what was served, where there was memory
wrote : (text : List ℕ) (why : Why) (own : Outcome) (old new : Option (List ℕ)) (failed_old failed_new : ℕ) (outcome : Outcome)
    → WritesEnded text why own old new failed_old failed_new outcome → (outcome ≡ NoMemory) ⊎ ((why ≢ reason.Memory) × Writes old new text own outcome)
wrote text why own old new failed_old failed_new NoMemory writes = inl refl
wrote text why own old new failed_old failed_new Done writes = inr (writes.0, only_writes _ _ _ _ _ _ _ writes.1)
wrote text why own old new failed_old failed_new BadWords writes = inr (writes.0, only_writes _ _ _ _ _ _ _ writes.1)
wrote text why own old new failed_old failed_new SourceFault writes = inr (writes.0, only_writes _ _ _ _ _ _ _ writes.1)
wrote text why own old new failed_old failed_new SinkFault writes = inr (writes.0, only_writes _ _ _ _ _ _ _ writes.1)
wrote text why own old new failed_old failed_new StoreFault writes = inr (writes.0, only_writes _ _ _ _ _ _ _ writes.1)
wrote text why own old new failed_old failed_new LinkFault writes = inr (writes.0, only_writes _ _ _ _ _ _ _ writes.1)
wrote text why own old new failed_old failed_new BadLine writes = inr (writes.0, only_writes _ _ _ _ _ _ _ writes.1)
wrote text why own old new failed_old failed_new InputLimit writes = inr (writes.0, only_writes _ _ _ _ _ _ _ writes.1)
wrote text why own old new failed_old failed_new JournalLimit writes = inr (writes.0, only_writes _ _ _ _ _ _ _ writes.1)
wrote text why own old new failed_old failed_new FrameLimit writes = inr (writes.0, only_writes _ _ _ _ _ _ _ writes.1)
wrote text why own old new failed_old failed_new NotOkay writes = inr (writes.0, only_writes _ _ _ _ _ _ _ writes.1)

-- fewer bytes than the limit were taken from known ones
not_taken : (left left_new : Option (List ℕ)) (input bytes : List ℕ) (limit : ℕ) → left ≡ Some input → Consumes left left_new bytes → length bytes ≡ limit → length input < limit → ⊥
not_taken left left_new input bytes limit is taken many short =
    not_all input bytes left_new limit (subst (λ x. Consumes x left_new bytes) is taken) many short

-- ---- a session over a link

module _ (workers : ℕ) (before after : LinkDevices) (input : List ℕ) (left : before.left ≡ Some input) (short : length input < INPUT_LIMIT) where
  by_why : (why : Why) (counts : Counts) (table : Table) (items : List Item) (outcome : Outcome) → ServesLink workers before after why counts table items
      → why ≢ reason.Memory → outcome ≡ outcome_for why → Blameless outcome → SoOrFull outcome (why ≡ reason.JournalLimit)
  by_why reason.Settled counts table items outcome serves other is none = inl (inl is)
  by_why reason.Source counts table items outcome serves other is none = absurd (none.source is)
  by_why reason.Sink counts table items outcome serves other is none = absurd (none.sink is)
  by_why reason.Store counts table items outcome serves other is none = absurd (none.store is)
  by_why reason.Memory counts table items outcome serves other is none = absurd (other refl)
  by_why reason.InputLimit counts table items outcome serves other is none = absurd (at serves)
    where
      at : ServesListed workers before after reason.InputLimit counts table items ⊎ FindsNoShelf before after reason.InputLimit counts table items → ⊥
      at (inl l) =
          let b = l.serves.begins in
          not_taken before.left after.left input b.bytes INPUT_LIMIT left b.taken (b.count ∙ l.serves.at_limit refl) short
      at (inr none) = not_store none.reason
        where
          not_store : reason.InputLimit ≡ reason.Store → ⊥
          not_store same = cc
  by_why reason.JournalLimit counts table items outcome serves other is none = inr (is, refl)

  link_well : (why : Why) (counts : Counts) (table : Table) (items : List Item) (text : List ℕ) (old new : Option (List ℕ)) (failed_old failed_new : ℕ) (outcome : Outcome)
      → ServesLink workers before after why counts table items → WritesServed text why old new failed_old failed_new outcome → Blameless outcome
      → SoOrFull outcome (why ≡ reason.JournalLimit)
  link_well why counts table items text old new failed_old failed_new outcome serves writes none = at (wrote text why (outcome_for why) old new failed_old failed_new outcome writes)
    where
      at : (outcome ≡ NoMemory) ⊎ ((why ≢ reason.Memory) × Writes old new text (outcome_for why) outcome) → SoOrFull outcome (why ≡ reason.JournalLimit)
      at (inl memory) = inl (inr memory)
      at (inr did) = by_why why counts table items outcome serves did.0 (own_outcome old new text (outcome_for why) outcome none.sink did.1) none

-- a session that read its source to the end read fewer bytes than the limit
link_read : (workers : ℕ) (before after : LinkDevices) (why : Why) (counts : Counts) (table : Table) (items : List Item) (input : List ℕ) → before.left ≡ Some input
    → why ≡ reason.Settled → ServesLink workers before after why counts table items → length input < INPUT_LIMIT
link_read workers before after why counts table items input left settled (inl l) =
    let s = l.serves in
    let b = s.begins in
    let taken = subst (λ x. Consumes x after.left b.bytes) left b.taken in
    let bytes = all_taken input b.bytes after.left taken (s.at_end settled) in
    subst (λ n. n < INPUT_LIMIT) (sym b.count ∙ ap length bytes) (s.below (inl settled))
link_read workers before after why counts table items input left settled (inr none) = absurd (not_store (sym settled ∙ none.reason))
  where
    not_store : reason.Settled ≡ reason.Store → ⊥
    not_store same = cc

-- ---- crew

full_crew : (workers : ℕ) (before after : Devices) (outcome : Outcome) (run : RunsCrew workers before after outcome) → outcome ≡ JournalLimit → run.why ≡ reason.JournalLimit
    → CrewFills workers before after
full_crew workers before after outcome run is full =
    subst (λ o. (r : RunsCrew workers before after o) → r.why ≡ reason.JournalLimit → CrewFills workers before after) (sym is) (λ r why. record { run = r; full = why }) run full

crew_well : (workers : ℕ) (before after : Devices) (input : List ℕ) (outcome : Outcome) → before.left ≡ Some input → length input < INPUT_LIMIT
    → DidCrew workers before after outcome → Blameless outcome → SoOrFull outcome (CrewFills workers before after)
crew_well workers before after input outcome left short (inr nothing) none = inl (inr nothing.memory)
crew_well workers before after input outcome left short (inl run) none =
    at (link_well workers (with_link before before.left None) (with_link after after.left None) input left short run.why run.counts run.table run.items _ before.written after.written
    before.failed after.failed outcome run.serves run.writes none)
  where
    at : SoOrFull outcome (run.why ≡ reason.JournalLimit) → SoOrFull outcome (CrewFills workers before after)
    at (inl so) = inl so
    at (inr full) = inr (full.0, full_crew workers before after outcome run full.0 full.1)

-- a crew that ended well met no limit
crew_read : (workers : ℕ) (before after : Devices) (input : List ℕ) → before.left ≡ Some input → DidCrew workers before after Done → length input < INPUT_LIMIT
crew_read workers before after input left (inr nothing) = absurd (not_memory nothing.memory)
  where
    not_memory : Done ≡ NoMemory → ⊥
    not_memory is = cc
crew_read workers before after input left (inl run) =
    link_read workers (with_link before before.left None) (with_link after after.left None) run.why run.counts run.table run.items input left
    (settled_well run.why (own_done before.written after.written _ (outcome_for run.why) (only_writes _ _ _ _ _ _ _ run.writes.1))) run.serves

-- ---- serve

-- the links to come are known, and each of the first so many gives few bytes
record Short (count : ℕ) (links : Links) : Type 0 where
  pub coming : List Ends
  pub are : links.coming ≡ Some coming
  pub short : AreShort (take count coming)

short_links : (count : ℕ) (before : Devices) → HasShortLinks count before → Short count before.links
short_links count before has = record { coming = has.0; are = has.1; short = has.2 }

-- a link was handed out: it is one of these
record Handed (count : ℕ) (left : Option (List ℕ)) (new : Links) : Type 0 where
  pub input : List ℕ
  pub left_is : left ≡ Some input
  pub short : length input < INPUT_LIMIT
  pub rest : Short count new

handed : (count : ℕ) (old new : Links) (left sent : Option (List ℕ)) → Short (suc count) old → HandsOut old new left sent → Handed count left new
handed count old new left sent short hands = at short.coming short.are short.short
  where
    at : (coming : List Ends) → old.coming ≡ Some coming → AreShort (take (suc count) coming) → Handed count left new
    at [] are all = absurd (hands.some are)
    at (pair ∷ rest) are all =
        let first = hands.first pair rest are in
        record { input = pair.0; left_is = first.0; short = all.0; rest = record { coming = rest; are = first.2; short = all.1 } }

-- the session of a connection was halted, since its journal was full
record FillsOne (workers number : ℕ) (before after : Devices) : Type 0 where
  pub run : RunsConnection way.Serve workers number before after JournalLimit
  pub full : run.why ≡ reason.JournalLimit

full_one : (workers number : ℕ) (before after : Devices) (outcome : Outcome) (run : RunsConnection way.Serve workers number before after outcome) → outcome ≡ JournalLimit
    → run.why ≡ reason.JournalLimit → FillsOne workers number before after
full_one workers number before after outcome run is full =
    subst (λ o. (r : RunsConnection way.Serve workers number before after o) → r.why ≡ reason.JournalLimit → FillsOne workers number before after) (sym is)
    (λ r why. record { run = r; full = why }) run full

connection_well : (workers number : ℕ) (before after : Devices) (outcome : Outcome) → Short 1 before.links → ServesConnection way.Serve workers number before after outcome
    → Blameless outcome → SoOrFull outcome (FillsOne workers number before after)
connection_well workers number before after outcome short (inr (inl given)) none = inl (inr given.memory)
connection_well workers number before after outcome short (inr (inr fails)) none = absurd (none.linker fails.fault)
connection_well workers number before after outcome short (inl run) none =
    let link = handed 0 before.links run.lent.between run.left_old run.sent_old short run.lent.handed in
    at (link_well workers (with_link before run.left_old run.sent_old) (with_link after run.left_new run.sent_new) link.input link.left_is link.short run.why run.counts run.table
    run.items _ before.written after.written before.failed after.failed outcome run.serves run.writes none)
  where
    at : SoOrFull outcome (run.why ≡ reason.JournalLimit) → SoOrFull outcome (FillsOne workers number before after)
    at (inl so) = inl so
    at (inr full) = inr (full.0, full_one workers number before after outcome run full.0 full.1)

still_short : (workers number count : ℕ) (before after : Devices) → Short (suc count) before.links → ServesConnection way.Serve workers number before after Done → Short count after.links
still_short workers number count before after short (inl run) =
    let link = handed count before.links run.lent.between run.left_old run.sent_old short run.lent.handed in
    record { coming = link.rest.coming; are = run.lent.taken.coming ∙ link.rest.are; short = link.rest.short }
still_short workers number count before after short (inr (inl given)) = absurd (not_memory given.memory)
  where
    not_memory : Done ≡ NoMemory → ⊥
    not_memory is = cc
still_short workers number count before after short (inr (inr fails)) = absurd (not_link fails.fault)
  where
    not_link : Done ≡ LinkFault → ⊥
    not_link is = cc

all_short : (workers count rest : ℕ) (before after : Devices) → Short (count + rest) before.links → ServesAll way.Serve workers count before after → Short rest after.links
all_short workers zero rest before after short same =
    let alone : zero + rest ≡ rest = omega arith in subst (λ d. Short rest d.links) (sym same) (subst (λ n. Short n before.links) alone short)
all_short workers (suc count) rest before after short serves =
    let moved : suc count + rest ≡ count + suc rest = omega arith in
    still_short workers (suc count) rest serves.0 after
    (all_short workers count (suc rest) before serves.0 (subst (λ n. Short n before.links) moved short) serves.1) serves.2

-- of so many more links at least one is short
short_one : (rest : ℕ) (links : Links) → 0 < rest → Short rest links → Short 1 links
short_one zero links some short = absurd (omega (arith, some))
short_one (suc rest) links some short = record { coming = short.coming; are = short.are; short = first short.coming short.short }
  where
    first : (coming : List Ends) → AreShort (take (suc rest) coming) → AreShort (take 1 coming)
    first [] all = tt
    first (pair ∷ others) all = (all.0, tt)

serve_well : (workers connections : ℕ) (before after : Devices) (outcome : Outcome) → Short connections before.links → DidServe workers connections before after outcome
    → Blameless outcome → SoOrFull outcome (ServeFills workers connections before after)
serve_well workers connections before after outcome short (inr fails) none = absurd (none.linker fails.fault)
serve_well workers connections before after outcome short (inl path) none = at path.serves
  where
    listening : Short connections path.listening.links
    listening = record { coming = short.coming; are = path.listened.kept.coming ∙ short.are; short = short.short }

    at : ((outcome ≡ Done) × ServesAll way.Serve workers connections path.listening after) ⊎ StopsServing way.Serve workers connections path.listening after outcome
        → SoOrFull outcome (ServeFills workers connections before after)
    at (inl all) = inl (inl all.0)
    at (inr stops) = last (connection_well workers (suc stops.served) stops.between after outcome one stops.last none)
      where
        left : Short (connections - stops.served) stops.between.links
        left =
            let parts : connections ≡ stops.served + (connections - stops.served) = omega (arith, stops.few) in
            all_short workers stops.served (connections - stops.served) path.listening stops.between
            (subst (λ n. Short n path.listening.links) parts listening) stops.first

        one : Short 1 stops.between.links
        one = short_one (connections - stops.served) stops.between.links (omega (arith, stops.few)) left

        last : SoOrFull outcome (FillsOne workers (suc stops.served) stops.between after) → SoOrFull outcome (ServeFills workers connections before after)
        last (inl so) = inl so
        last (inr full) = inr (
          full.0,
          record {
            listening = path.listening;
            listened = path.listened;
            served = stops.served;
            few = stops.few;
            between = stops.between;
            first = stops.first;
            run = full.1.run;
            full = full.1.full;
          },
        )

-- ---- host

-- where a connection doesn't blame the store and memory isn't wanting, the run goes on
goes_on : (why : Why) (outcome : Outcome) → why ≢ reason.Memory → outcome ≡ hosted_outcome why → Blameless outcome → EndsSo outcome
goes_on reason.Store outcome other is none = absurd (none.store is)
goes_on reason.Memory outcome other is none = absurd (other refl)
goes_on _ outcome other is none = inl is

hosted_well : (workers number : ℕ) (before after : Devices) (outcome : Outcome) → ServesConnection way.Host workers number before after outcome → Blameless outcome → EndsSo outcome
hosted_well workers number before after outcome (inr (inl given)) none = inr given.memory
hosted_well workers number before after outcome (inr (inr fails)) none = absurd (none.linker fails.fault)
hosted_well workers number before after outcome (inl run) none =
    at (connection_report number run.table run.counts run.why)
    (wrote (connection_report number run.table run.counts run.why) run.why (hosted_outcome run.why) before.written after.written before.failed after.failed outcome run.writes)
  where
    at : (text : List ℕ) → (outcome ≡ NoMemory) ⊎ ((run.why ≢ reason.Memory) × Writes before.written after.written text (hosted_outcome run.why) outcome) → EndsSo outcome
    at text (inl memory) = inr memory
    at text (inr did) = goes_on run.why outcome did.0 (own_outcome before.written after.written text (hosted_outcome run.why) outcome none.sink did.1) none

host_well : (workers : ℕ) (before after : Devices) (outcome : Outcome) → DidHost workers before after outcome → Blameless outcome → EndsSo outcome
host_well workers before after outcome (inr fails) none = absurd (none.linker fails.fault)
host_well workers before after outcome (inl path) none = at path.serves
  where
    at : ((outcome ≡ Done) × ServesAll way.Host workers MAX_HOSTED path.listening after) ⊎ StopsServing way.Host workers MAX_HOSTED path.listening after outcome → EndsSo outcome
    at (inl all) = inl all.0
    at (inr stops) = hosted_well workers (suc stops.served) stops.between after outcome stops.last none

-- of these links the first was handed out, and gave so few
record ReadOne (links : List Ends) (new : Links) : Type 0 where
  pub pair : Ends
  pub rest : List Ends
  pub are : links ≡ pair ∷ rest
  pub short : length pair.0 < INPUT_LIMIT
  pub coming : new.coming ≡ Some rest

connection_read : (workers number : ℕ) (before after : Devices) (links : List Ends) → before.links.coming ≡ Some links → ServesConnection way.Serve workers number before after Done
    → ReadOne links after.links
connection_read workers number before after links are (inl run) = at links are
  where
    settled : run.why ≡ reason.Settled
    settled = settled_well run.why (own_done before.written after.written _ (outcome_for run.why) (only_writes _ _ _ _ _ _ _ run.writes.1))

    at : (coming : List Ends) → before.links.coming ≡ Some coming → ReadOne coming after.links
    at [] none = absurd (run.lent.handed.some none)
    at (pair ∷ rest) is =
        let first = run.lent.handed.first pair rest is in
        record {
          pair = pair;
          rest = rest;
          are = refl;
          short =
              link_read workers (with_link before run.left_old run.sent_old) (with_link after run.left_new run.sent_new) run.why run.counts run.table run.items pair.0 first.0 settled
              run.serves;
          coming = run.lent.taken.coming ∙ first.2;
        }
connection_read workers number before after links are (inr (inl given)) = absurd (not_memory given.memory)
  where
    not_memory : Done ≡ NoMemory → ⊥
    not_memory is = cc
connection_read workers number before after links are (inr (inr fails)) = absurd (not_link fails.fault)
  where
    not_link : Done ≡ LinkFault → ⊥
    not_link is = cc

-- so many were, and these are to come
record ReadSo (count : ℕ) (links : List Ends) (new : Links) : Type 0 where
  pub first : List Ends
  pub others : List Ends
  pub split : links ≡ first ++ others
  pub many : length first ≡ count
  pub short : AreShort first
  pub coming : new.coming ≡ Some others

one_more : (pair : Ends) (first : List Ends) → AreShort first → length pair.0 < INPUT_LIMIT → AreShort (first ++ pair ∷ [])
one_more pair [] all short = (short, tt)
one_more pair (x ∷ first) all short = (all.0, one_more pair first all.1 short)

all_read : (workers count : ℕ) (before after : Devices) (links : List Ends) → before.links.coming ≡ Some links → ServesAll way.Serve workers count before after → ReadSo count links after.links
all_read workers zero before after links are same = record {
  first = [];
  others = links;
  split = refl;
  many = refl;
  short = tt;
  coming = ap (λ (d : Devices). d.links.coming) same ∙ are;
}
all_read workers (suc count) before after links are serves =
    let so = all_read workers count before serves.0 links are serves.1 in
    let one = connection_read workers (suc count) serves.0 after so.others so.coming serves.2 in
    record {
      first = so.first ++ one.pair ∷ [];
      others = one.rest;
      split = so.split ∙ (ap (λ xs. so.first ++ xs) one.are ∙ sym (append_assoc so.first (one.pair ∷ []) one.rest));
      many = omega (arith, so.many, length-append so.first (one.pair ∷ []));
      short = one_more one.pair so.first so.short one.short;
      coming = one.coming;
    }

serve_read : (workers connections : ℕ) (before after : Devices) (links : List Ends) → before.links.coming ≡ Some links → DidServe workers connections before after Done
    → AreShortUpTo connections links
serve_read workers connections before after links are (inr fails) = absurd (not_link fails.fault)
  where
    not_link : Done ≡ LinkFault → ⊥
    not_link is = cc
serve_read workers connections before after links are (inl path) = at path.serves
  where
    at : ((Done ≡ Done) × ServesAll way.Serve workers connections path.listening after) ⊎ StopsServing way.Serve workers connections path.listening after Done → AreShortUpTo connections links
    at (inl all) =
        let so = all_read workers connections path.listening after links (path.listened.kept.coming ∙ are) all.1 in
        record { first = so.first; others = so.others; split = so.split; many = so.many; short = so.short }
    at (inr stops) = absurd (stops.stops refl)

-- ---- bridge

-- no pump over a short input meets the limit
unlimited : (routes : List Route) (from : Port) (left left_new old new : Option (List ℕ)) (done : Pumped) (input : List ℕ) → left ≡ Some input → length input < INPUT_LIMIT
    → Pumps routes from left left_new old new done → done.why ≢ reason.InputLimit
unlimited routes from left left_new old new done input is short pumps limit =
    not_taken left left_new input pumps.bytes INPUT_LIMIT is pumps.taken (pumps.at_limit limit) short

none_limited : (left right : Why) → left ≢ reason.InputLimit → right ≢ reason.InputLimit → first_reason left right ≢ reason.InputLimit
none_limited reason.Settled right l r is = r is
none_limited reason.Source right l r is = cc is
none_limited reason.Sink right l r is = cc is
none_limited reason.Store right l r is = cc is
none_limited reason.InputLimit right l r is = l refl
none_limited reason.JournalLimit right l r is = cc is
none_limited reason.Memory right l r is = cc is

bridge_well : (at_right at_left : ℕ) (before after : Devices) (outcome : Outcome) → Short 2 before.links → DidBridge at_right at_left before after outcome → Blameless outcome → EndsSo outcome
bridge_well at_right at_left before after outcome short (inr fails) none = absurd (none.linker fails.fault)
bridge_well at_right at_left before after outcome short (inl run) none = at (wrote (bridge_text run.done) (reason_of run.done) (outcome_for (reason_of run.done)) before.written after.written before.failed after.failed outcome run.writes)
  where
    few : reason_of run.done ≢ reason.InputLimit
    few =
        let b = run.bridges in
        let one = handed 1 before.links b.one_out b.left.left b.left.written short b.left_out in
        let other = handed 0 b.one_out b.both_out b.right.left b.right.written one.rest b.right_out in
        none_limited run.done.from_left.why run.done.from_right.why
        (unlimited _ _ b.left.left b.left_end.left b.right.written b.right_end.written run.done.from_left one.input one.left_is one.short b.from_left)
        (unlimited _ _ b.right.left b.right_end.left b.left.written b.left_end.written run.done.from_right other.input other.left_is other.short b.from_right)

    by : (why : Why) → why ≢ reason.InputLimit → why ≢ reason.JournalLimit → why ≢ reason.Memory → outcome ≡ outcome_for why → EndsSo outcome
    by reason.Settled short_enough room other is = inl is
    by reason.Source short_enough room other is = absurd (none.source is)
    by reason.Sink short_enough room other is = absurd (none.sink is)
    by reason.Store short_enough room other is = absurd (none.store is)
    by reason.InputLimit short_enough room other is = absurd (short_enough refl)
    by reason.JournalLimit short_enough room other is = absurd (room refl)
    by reason.Memory short_enough room other is = absurd (other refl)

    at : (outcome ≡ NoMemory) ⊎ ((reason_of run.done ≢ reason.Memory) × Writes before.written after.written (bridge_text run.done) (outcome_for (reason_of run.done)) outcome)
        → EndsSo outcome
    at (inl memory) = inr memory
    at (inr did) =
        by (reason_of run.done) few run.no_journal did.0
        (own_outcome before.written after.written (bridge_text run.done) (outcome_for (reason_of run.done)) outcome none.sink did.1)

-- a pump that read its source to the end read fewer bytes than the limit
pump_read : (routes : List Route) (from : Port) (left left_new old new : Option (List ℕ)) (done : Pumped) (input : List ℕ) → left ≡ Some input → done.why ≡ reason.Settled
    → Pumps routes from left left_new old new done → length input < INPUT_LIMIT
pump_read routes from left left_new old new done input is settled pumps =
    let taken = subst (λ x. Consumes x left_new pumps.bytes) is pumps.taken in
    let bytes = all_taken input pumps.bytes left_new taken (pumps.at_end settled) in
    subst (λ n. n < INPUT_LIMIT) (ap length bytes) (pumps.below (inl settled))

both_settled : (left right : Why) → first_reason left right ≡ reason.Settled → (left ≡ reason.Settled) × (right ≡ reason.Settled)
both_settled reason.Settled right is = (refl, is)
both_settled reason.Source right is = absurd cc
both_settled reason.Sink right is = absurd cc
both_settled reason.Store right is = absurd cc
both_settled reason.InputLimit right is = absurd cc
both_settled reason.JournalLimit right is = absurd cc
both_settled reason.Memory right is = absurd cc

bridge_read : (at_right at_left : ℕ) (before after : Devices) (links : List Ends) → before.links.coming ≡ Some links → DidBridge at_right at_left before after Done
    → AreShortUpTo 2 links
bridge_read at_right at_left before after links are (inr fails) = absurd (not_link fails.fault)
  where
    not_link : Done ≡ LinkFault → ⊥
    not_link is = cc
bridge_read at_right at_left before after links are (inl run) = at links are
  where
    b : Bridges (bridge_routes at_right at_left) before.links after.links run.done
    b = run.bridges

    both : (run.done.from_left.why ≡ reason.Settled) × (run.done.from_right.why ≡ reason.Settled)
    both =
        both_settled run.done.from_left.why run.done.from_right.why
        (settled_well (reason_of run.done) (own_done before.written after.written _ (outcome_for (reason_of run.done)) (only_writes _ _ _ _ _ _ _ run.writes.1)))

    at : (coming : List Ends) → before.links.coming ≡ Some coming → AreShortUpTo 2 coming
    at [] none = absurd (b.left_out.some none)
    at (pair ∷ []) is = absurd (b.right_out.some (b.left_out.first pair [] is).2)
    at (pair ∷ other ∷ rest) is =
        let one = b.left_out.first pair (other ∷ rest) is in
        let two = b.right_out.first other rest one.2 in
        record {
          first = pair ∷ other ∷ [];
          others = rest;
          split = refl;
          many = refl;
          short = (
            pump_read _ _ b.left.left b.left_end.left b.right.written b.right_end.written run.done.from_left pair.0 one.0 both.0 b.from_left,
            (pump_read _ _ b.right.left b.right_end.left b.left.written b.left_end.written run.done.from_right other.0 two.0 both.1 b.from_right, tt),
          );
        }

-- ---- client

abbrev ClientSo : Outcome → Type 0 → Type 0
ClientSo outcome Fills = (EndsSo outcome ⊎ (outcome ≡ NotOkay)) ⊎ ((outcome ≡ JournalLimit) × Fills)

client_so : {Fills : Type 0} (status : ℕ) (outcome : Outcome) → status ≡ code_of outcome → ClientSo outcome Fills
    → (IsWell status ⊎ (status ≡ code_of NotOkay)) ⊎ (IsFull status × Fills)
client_so status outcome is (inl (inl so)) = inl (inl (well status outcome is so))
client_so status outcome is (inl (inr other)) = inl (inr (is ∙ ap code_of other))
client_so status outcome is (inr full) = inr (is ∙ ap code_of full.0, full.1)

-- what was written, where there was memory
text_wrote : (text : List ℕ) (own : Outcome) (old new : Option (List ℕ)) (outcome : Outcome) → WritesText text own old new outcome
    → (outcome ≡ NoMemory) ⊎ Writes old new text own outcome
text_wrote text own old new NoMemory writes = inl refl
text_wrote text own old new Done writes = inr writes
text_wrote text own old new BadWords writes = inr writes
text_wrote text own old new SourceFault writes = inr writes
text_wrote text own old new SinkFault writes = inr writes
text_wrote text own old new StoreFault writes = inr writes
text_wrote text own old new LinkFault writes = inr writes
text_wrote text own old new BadLine writes = inr writes
text_wrote text own old new InputLimit writes = inr writes
text_wrote text own old new JournalLimit writes = inr writes
text_wrote text own old new FrameLimit writes = inr writes
text_wrote text own old new NotOkay writes = inr writes

-- the same of a client
client_wrote : (reported : Reported) (l : Live) (old new : Option (List ℕ)) (failed_old failed_new : ℕ) (outcome : Outcome)
    → WritesClient reported l old new failed_old failed_new outcome
    → (outcome ≡ NoMemory) ⊎ ((l.why ≢ reason.Memory) × Writes old new (text_of reported l) (client_outcome l.why l.ended) outcome)
client_wrote reported l old new failed_old failed_new NoMemory writes = inl refl
client_wrote reported l old new failed_old failed_new Done writes = inr (writes.0, only_writes _ _ _ _ _ _ _ writes.1)
client_wrote reported l old new failed_old failed_new BadWords writes = inr (writes.0, only_writes _ _ _ _ _ _ _ writes.1)
client_wrote reported l old new failed_old failed_new SourceFault writes = inr (writes.0, only_writes _ _ _ _ _ _ _ writes.1)
client_wrote reported l old new failed_old failed_new SinkFault writes = inr (writes.0, only_writes _ _ _ _ _ _ _ writes.1)
client_wrote reported l old new failed_old failed_new StoreFault writes = inr (writes.0, only_writes _ _ _ _ _ _ _ writes.1)
client_wrote reported l old new failed_old failed_new LinkFault writes = inr (writes.0, only_writes _ _ _ _ _ _ _ writes.1)
client_wrote reported l old new failed_old failed_new BadLine writes = inr (writes.0, only_writes _ _ _ _ _ _ _ writes.1)
client_wrote reported l old new failed_old failed_new InputLimit writes = inr (writes.0, only_writes _ _ _ _ _ _ _ writes.1)
client_wrote reported l old new failed_old failed_new JournalLimit writes = inr (writes.0, only_writes _ _ _ _ _ _ _ writes.1)
client_wrote reported l old new failed_old failed_new FrameLimit writes = inr (writes.0, only_writes _ _ _ _ _ _ _ writes.1)
client_wrote reported l old new failed_old failed_new NotOkay writes = inr (writes.0, only_writes _ _ _ _ _ _ _ writes.1)

ended_so : (ended : Option Status) (outcome : Outcome) → outcome ≡ ended_outcome ended → EndsSo outcome ⊎ (outcome ≡ NotOkay)
ended_so (Some Okay) outcome is = inl (inl is)
ended_so _ outcome is = inr is

-- a client over a link that gives few bytes
module _ (asks : LiveAsk) (before after : LinkDevices) (input : List ℕ) (left : before.left ≡ Some input) (short : length input < INPUT_LIMIT) (l : Live) (does : DoesAsked asks before after l) where
  by_reason : (why : Why) (outcome : Outcome) → l.why ≡ why → why ≢ reason.Memory → outcome ≡ client_outcome why l.ended → Blameless outcome
      → ClientSo outcome (l.why ≡ reason.JournalLimit)
  by_reason reason.Settled outcome same other is none = inl (ended_so l.ended outcome is)
  by_reason reason.Source outcome same other is none = absurd (none.source is)
  by_reason reason.Sink outcome same other is none = absurd (none.sink is)
  by_reason reason.Store outcome same other is none = absurd (none.store is)
  by_reason reason.Memory outcome same other is none = absurd (other refl)
  by_reason reason.InputLimit outcome same other is none =
      let b = does.begins in absurd (not_taken before.left after.left input b.bytes INPUT_LIMIT left b.taken (b.count ∙ does.at_limit same) short)
  by_reason reason.JournalLimit outcome same other is none = inr (is, same)

  client_ends : (reported : Reported) (old new : Option (List ℕ)) (failed_old failed_new : ℕ) (outcome : Outcome)
      → WritesClient reported l old new failed_old failed_new outcome → Blameless outcome → ClientSo outcome (l.why ≡ reason.JournalLimit)
  client_ends reported old new failed_old failed_new outcome writes none = at (client_wrote reported l old new failed_old failed_new outcome writes)
    where
      at : (outcome ≡ NoMemory) ⊎ ((l.why ≢ reason.Memory) × Writes old new (text_of reported l) (client_outcome l.why l.ended) outcome)
          → ClientSo outcome (l.why ≡ reason.JournalLimit)
      at (inl memory) = inl (inl (inr memory))
      at (inr did) = by_reason l.why outcome refl did.0 (own_outcome old new (text_of reported l) (client_outcome l.why l.ended) outcome none.sink did.1) none

full_client : (command : ClientCommand) (asks : LiveAsk) (before after : Devices) (outcome : Outcome) (run : RunsClient (Line command) asks before after outcome)
    → Asks command before asks → outcome ≡ JournalLimit → run.did.why ≡ reason.JournalLimit → ClientFills command before after
full_client command asks before after outcome run by is full =
    subst (λ o. (r : RunsClient (Line command) asks before after o) → r.did.why ≡ reason.JournalLimit → ClientFills command before after) (sym is)
    (λ r why. record { asks = asks; by = by; run = r; full = why }) run full

-- where a client is asked nothing it makes no link
not_asked : (command : ClientCommand) (before : Devices) (asks : LiveAsk) → AsksNothing command before → Asks command before asks → ⊥
not_asked command before asks nothing by =
    let same : by.shelf ≡ shelf_of nothing.st = shelf_is before.held nothing.st by.shelf nothing.held_is by.listed in
    unlike (sym by.is ∙ (ap (asked command) same ∙ nothing.unfit))
  where
    unlike : {A B : Type 0} {x : A} {y : B} → ◌≡◌ {A = Result A B} (Ok x) (Err y) → ⊥
    unlike is = cc

client_well : (command : ClientCommand) (before after : Devices) (outcome : Outcome) → Short 1 before.links ⊎ AsksNothing command before → DidClient command before after outcome
    → Blameless outcome → ClientSo outcome (ClientFills command before after)
client_well command before after outcome inputs (inr (inr nothing)) none = inl (inl (inr nothing.memory))
client_well command before after outcome inputs (inr (inl told)) none = at (text_wrote _ StoreFault before.written after.written outcome told.writes)
  where
    at : (outcome ≡ NoMemory) ⊎ Writes before.written after.written (live_report None reason.Store) StoreFault outcome → ClientSo outcome (ClientFills command before after)
    at (inl memory) = inl (inl (inr memory))
    at (inr did) = absurd (none.store (own_outcome before.written after.written (live_report None reason.Store) StoreFault outcome none.sink did))
client_well command before after outcome inputs (inl shelf) none = found (asked command shelf.shelf) refl shelf.does
  where
    ran : (asks : LiveAsk) → Asks command before asks → Short 1 before.links ⊎ AsksNothing command before → RunsClient (Line command) asks before after outcome
        → ClientSo outcome (ClientFills command before after)
    ran asks by (inr nothing) run = absurd (not_asked command before asks nothing by)
    ran asks by (inl short) run =
        let link = handed 0 before.links run.lent.between run.left_old run.sent_old short run.lent.handed in
        at (client_ends asks (with_link before run.left_old run.sent_old) (with_link after run.left_new run.sent_new) link.input link.left_is link.short run.did run.does
        (Line command) before.written after.written before.failed after.failed outcome run.writes none)
      where
        at : ClientSo outcome (run.did.why ≡ reason.JournalLimit) → ClientSo outcome (ClientFills command before after)
        at (inl so) = inl so
        at (inr full) = inr (full.0, full_client command asks before after outcome run by full.0 full.1)

    over : (asks : LiveAsk) → Asks command before asks → AsksOverLink (Line command) asks before after outcome → ClientSo outcome (ClientFills command before after)
    over asks by (inl run) = ran asks by inputs run
    over asks by (inr (inl given)) = inl (inl (inr given.memory))
    over asks by (inr (inr fails)) = absurd (none.linker fails.fault)

    unfit : (line : LiveLine) → (outcome ≡ NoMemory) ⊎ Writes before.written after.written (live_line line) NotOkay outcome → ClientSo outcome (ClientFills command before after)
    unfit line (inl memory) = inl (inl (inr memory))
    unfit line (inr did) = inl (inr (own_outcome before.written after.written (live_line line) NotOkay outcome none.sink did))

    found : (asks : Result LiveAsk LiveLine) → asked command shelf.shelf ≡ asks → DoesFoundOrNothing command asks before after outcome
        → ClientSo outcome (ClientFills command before after)
    found asks is (inr nothing) = inl (inl (inr nothing.memory))
    found (Ok asks) is (inl does) = over asks (record { shelf = shelf.shelf; listed = shelf.listed; is = is }) does
    found (Err line) is (inl told) = unfit line (text_wrote (live_line line) NotOkay before.written after.written outcome told.writes)

-- ---- all commands on threads

pub live_end_well : LiveEndWell
live_end_well (Crew workers) status before after ends none inputs =
    told_so status ends.0 ends.1 (crew_well workers before after inputs.0 ends.0 inputs.1 inputs.2 ends.2 (blameless status ends.0 ends.1 none))
live_end_well (Serve workers connections) status before after ends none inputs =
    told_so status ends.0 ends.1
    (serve_well workers connections before after ends.0 (short_links connections before inputs) ends.2 (blameless status ends.0 ends.1 none))
live_end_well (Host workers) status before after ends none inputs =
    well status ends.0 ends.1 (host_well workers before after ends.0 ends.2 (blameless status ends.0 ends.1 none))
live_end_well (Bridge at_right at_left) status before after ends none inputs =
    well status ends.0 ends.1
    (bridge_well at_right at_left before after ends.0 (short_links 2 before inputs) ends.2 (blameless status ends.0 ends.1 none))
live_end_well (Client command) status before after ends none inputs =
    client_so status ends.0 ends.1
    (client_well command before after ends.0 (one inputs) ends.2 (blameless status ends.0 ends.1 none))
  where
    one : HasShortLinks 1 before ⊎ AsksNothing command before → Short 1 before.links ⊎ AsksNothing command before
    one (inl links) = inl (short_links 1 before links)
    one (inr nothing) = inr nothing

pub crew_had_room : CrewHadRoom
crew_had_room workers status before after input ends is left =
    crew_read workers before after input left (subst (DidLive (Crew workers) before after) (done_of ends.0 (sym ends.1 ∙ is)) ends.2)

pub serve_had_room : ServeHadRoom
serve_had_room workers connections status before after links ends is are =
    serve_read workers connections before after links are (subst (DidLive (Serve workers connections) before after) (done_of ends.0 (sym ends.1 ∙ is)) ends.2)

pub bridge_had_room : BridgeHadRoom
bridge_had_room at_right at_left status before after links ends is are =
    bridge_read at_right at_left before after links are (subst (DidLive (Bridge at_right at_left) before after) (done_of ends.0 (sym ends.1 ∙ is)) ends.2)

pub client_had_room : ClientHadRoom
client_had_room command status before after links ends is are = at links are
  where
    e : EndedOkay command before after
    e = okay_is_okay command status before after ends is

    at : (coming : List Ends) → before.links.coming ≡ Some coming → AreShortUpTo 1 coming
    at [] none = absurd (e.run.lent.handed.some none)
    at (pair ∷ rest) coming =
        let does = e.run.does in
        let begins = does.begins in
        let taken = subst (λ x. Consumes x e.run.left_new begins.bytes) (e.run.lent.handed.first pair rest coming).0 begins.taken in
        let bytes = all_taken pair.0 begins.bytes e.run.left_new taken (does.at_end e.settled) in
        record {
          first = pair ∷ [];
          others = rest;
          split = refl;
          many = refl;
          short = (subst (λ n. n < INPUT_LIMIT) (sym begins.count ∙ ap length bytes) (does.below (inl e.settled)), tt);
        }
