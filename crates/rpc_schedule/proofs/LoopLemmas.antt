-- What the loops have done so far, and one step more.
use Rattle.std.proofs.Common.{◌≡◌, ◌⊎◌, ℕ, ◌-◌, ◌<◌, Bool, true, false, ◌&&◌, List, [], ◌∷◌, ◌++◌, length, Option, Some, None, is_none, Result, Ok, Err, refl, ap, sym, ◌∙◌, subst, inl, inr, arith}
use Rattle.std.proofs.lemmas.Bool.{and_parts}
use Rattle.rpc_handlers.specs.HandlerRule.{HandlerRule}
use Rattle.rpc_journal.specs.declared.answers.StartRefused.{StartRefused}
use Rattle.rpc_journal.specs.declared.answers.StartRefused.TheVariants.{JournalFull, Memory}
use Rattle.rpc_journal.specs.declared.entry.Entry.{Entry}
use Rattle.rpc_journal.specs.declared.entry.TheConstants.{MAX_ENTRIES}
use Rattle.rpc_journal.specs.declared.item.Item.{Item}
use Rattle.rpc_journal.specs.declared.setting.Setting.{Setting}
use Rattle.rpc_journal.specs.Choice.{NoneReady, SomeReady}
use Rattle.rpc_journal.specs.History.{history}
use Rattle.rpc_journal.specs.Items.{items_flushed}
use Rattle.rpc_schedule.specs.Kept.{is_store_action}
use Rattle.rpc_schedule.specs.Schedule.{NoneWaits, Reaches, Stage, Turn}
use Rattle.rpc_schedule.specs.Schedule.Stage.{running, flushing}
use Rattle.rpc_schedule.specs.Serving.{Feeds, Gives, Serving, Works, deeds, is_idle, none_waiting}
use Rattle.rpc_schedule.specs.Settling.{FlushesAll, Grows, IsOrderly, LeadsTo, RunsAll, RunsAndFlushes, SettlesAll, Stays, StopsAtStore, StopsFull}
use Rattle.rpc_schedule.proofs.EntryLemmas.{none_ready}
use Rattle.rpc_schedule.proofs.ScheduleLemmas.{reaches_itself, reaches_then, reaches_turn}
use Rattle.rpc_schedule.proofs.SentLemmas.{SendsOn, sends_itself, sends_then, sends_worked}
use Rattle.rpc_schedule.proofs.ServingLemmas.{StepsRun, flush_steps, run_steps}

pub stays_itself : (s : Serving) → Stays s s
stays_itself s = record { setting = refl; refused = refl; arrived = refl; input = refl; longer = omega arith }

pub stays_then : (a b c : Serving) → Stays a b → Stays b c → Stays a c
stays_then a b c first more = record {
  setting = more.setting ∙ first.setting;
  refused = more.refused ∙ first.refused;
  arrived = more.arrived ∙ first.arrived;
  input = more.input ∙ first.input;
  longer = omega (arith, first.longer, more.longer);
}

-- what a later server leads to, an earlier one of the same setting leads to
pub leads_then : (rule : HandlerRule) (old now : Serving) (a b c : Stage) → now.table.setting ≡ old.table.setting → LeadsTo rule old a b → LeadsTo rule now b c
    → LeadsTo rule old a c
leads_then rule old now a b c same first more =
    reaches_then rule old.table.setting a b c first (subst (λ set. Reaches rule set b c) same more)

pub leads_turn : (rule : HandlerRule) (old now : Serving) (a b c : Stage) → now.table.setting ≡ old.table.setting → LeadsTo rule old a b
    → Turn rule now.table.setting b c → LeadsTo rule old a c
leads_turn rule old now a b c same first turn =
    reaches_turn rule old.table.setting a b c first (subst (λ set. Turn rule set b c) same turn)

-- calls ran
pub record RunsOn (rule : HandlerRule) (old now : Serving) : Type 0 where
  pub stays : Stays old now
  pub orderly : IsOrderly now
  pub same_items : items_flushed (deeds now) ≡ items_flushed (deeds old)
  pub leads : LeadsTo rule old (running old.table.entries) (running now.table.entries)
  pub sends : SendsOn old now
  pub grew : (now ≡ old) ⊎ ((length old.table.entries < MAX_ENTRIES) × (length old.table.entries < length now.table.entries))

pub runs_on_from : (rule : HandlerRule) (s : Serving) → IsOrderly s → RunsOn rule s s
runs_on_from rule s orderly = record {
  stays = stays_itself s;
  orderly = orderly;
  same_items = refl;
  leads = reaches_itself rule s.table.setting (running s.table.entries);
  sends = sends_itself s;
  grew = inl refl;
}

runs_on_step : (rule : HandlerRule) (old now next : Serving) → RunsOn rule old now → StepsRun rule now next → SendsOn now next → RunsOn rule old next
runs_on_step rule old now next on step sends = record {
  stays = stays_then old now next on.stays step.stays;
  orderly = step.orderly;
  same_items = step.same_items ∙ on.same_items;
  leads = leads_turn rule old now (running old.table.entries) (running now.table.entries) (running next.table.entries) on.stays.setting on.leads step.ran;
  sends = sends_then old now next on.sends sends;
  grew = inr (omega (arith, step.below, on.stays.longer), omega (arith, step.grows, on.stays.longer));
}

-- the steps of a `work`
pub worked : (rule : HandlerRule) (s next : Serving) → IsOrderly s → Works rule s (Ok true) next → StepsRun rule s next
worked rule s next orderly (inl ends) = absurd (kept_none ends.kept orderly.unkept)
  where
    kept_none : {A : Type 0} {o : Option A} {x : A} → o ≡ Some x → o ≡ None → ⊥
    kept_none some none = absurd cc
worked rule s next orderly (inr ran) = run_steps rule s ran.0 next orderly ran.1 ran.2

pub runs_on_more : (rule : HandlerRule) (old now next : Serving) → RunsOn rule old now → Works rule now (Ok true) next → RunsOn rule old next
runs_on_more rule old now next on works =
    runs_on_step rule old now next on (worked rule now next on.orderly works) (sends_worked rule now next (Ok true) works)

pub runs_smaller : (rule : HandlerRule) (now next : Serving) → IsOrderly now → Works rule now (Ok true) next
    → MAX_ENTRIES - length next.table.entries < MAX_ENTRIES - length now.table.entries
runs_smaller rule now next orderly works =
    let step = worked rule now next orderly works in omega (arith, step.below, step.grows)

pub runs_all : (rule : HandlerRule) (old now next : Serving) → RunsOn rule old now → Works rule now (Ok false) next → RunsAll rule old next
runs_all rule old now next on works = subst (RunsAll rule old) (sym works.same) record {
  stays = on.stays;
  orderly = on.orderly;
  same_items = on.same_items;
  leads = leads_turn rule old now (running old.table.entries) (running now.table.entries) (flushing now.table.entries) on.stays.setting on.leads (works.none_ready, refl);
  grows = λ some. at some on.grew;
}
  where
    at : SomeReady (deeds old) → (now ≡ old) ⊎ ((length old.table.entries < MAX_ENTRIES) × (length old.table.entries < length now.table.entries))
        → (length old.table.entries < MAX_ENTRIES) × (length old.table.entries < length now.table.entries)
    at some (inl same) = absurd (not_ready (subst (λ s. NoneReady (deeds s)) same works.none_ready some.0) some.1)
      where
        not_ready : {b : Bool} → b ≡ false → b ≡ true → ⊥
        not_ready is not = absurd cc
    at some (inr grew) = grew

pub stops_full : (rule : HandlerRule) (old now next : Serving) → RunsOn rule old now → Works rule now (Err JournalFull) next → StopsFull rule old next
stops_full rule old now next on works = subst (StopsFull rule old) (sym works.same) record {
  stays = on.stays;
  orderly = on.orderly;
  leads = on.leads;
  full = works.full;
  some_ready = works.some_ready;
}

pub full_same_items : (rule : HandlerRule) (old now next : Serving) → RunsOn rule old now → Works rule now (Err JournalFull) next
    → items_flushed (deeds next) ≡ items_flushed (deeds old)
full_same_items rule old now next on works = ap (λ s. items_flushed (deeds s)) works.same ∙ on.same_items

-- items were flushed
pub record FlushesOn (rule : HandlerRule) (old now : Serving) : Type 0 where
  pub stays : Stays old now
  pub orderly : IsOrderly now
  pub leads : LeadsTo rule old (flushing old.table.entries) (flushing now.table.entries)

pub flushes_on_from : (rule : HandlerRule) (s : Serving) → IsOrderly s → FlushesOn rule s s
flushes_on_from rule s orderly =
    record { stays = stays_itself s; orderly = orderly; leads = reaches_itself rule s.table.setting (flushing s.table.entries) }

pub flushes_on_more : (rule : HandlerRule) (old now next : Serving) (item : Item) → FlushesOn rule old now → Gives now (Some item) next → FlushesOn rule old next
flushes_on_more rule old now next item on gives =
    let step = flush_steps now next item on.orderly gives in
    record {
      stays = stays_then old now next on.stays step.stays;
      orderly = step.orderly;
      leads = leads_turn rule old now (flushing old.table.entries) (flushing now.table.entries) (flushing next.table.entries) on.stays.setting on.leads step.flushed;
    }

pub flushes_all : (rule : HandlerRule) (old now next : Serving) → FlushesOn rule old now → Gives now None next → FlushesAll rule old next
flushes_all rule old now next on gives = subst (FlushesAll rule old) (sym gives.1) record {
  stays = on.stays;
  orderly = on.orderly;
  leads = on.leads;
  none_waits = gives.0;
}

-- a store action that was flushed isn't made
pub flush_stops : (rule : HandlerRule) (old now next : Serving) (before items : List Item) (item : Item) → FlushesOn rule old now → Gives now (Some item) next
    → is_store_action item.call item.act ≡ true → items ≡ before → before ≡ items_flushed (deeds now)
    → StopsAtStore rule old (flushing old.table.entries) next items
flush_stops rule old now next before items item on gives action same are =
    let step = flush_steps now next item on.orderly gives in
    record {
      stays = stays_then old now next on.stays step.stays;
      orderly = step.orderly;
      before = now;
      failed = item;
      same = on.stays.setting;
      leads = on.leads;
      gives = gives;
      action = action;
      items_are = same ∙ are;
    }

-- behind what was done before
stops_behind : (rule : HandlerRule) (old mid new : Serving) (items : List Item) (a b : Stage) → Stays old mid → LeadsTo rule old a b → StopsAtStore rule mid b new items
    → StopsAtStore rule old a new items
stops_behind rule old mid new items a b stays leads stops = record {
  stays = stays_then old mid new stays stops.stays;
  orderly = stops.orderly;
  before = stops.before;
  failed = stops.failed;
  same = stops.same ∙ stays.setting;
  leads = leads_then rule old mid a b (flushing stops.before.table.entries) stays.setting leads stops.leads;
  gives = stops.gives;
  action = stops.action;
  items_are = stops.items_are;
}

-- all ready calls ran, and then a store action wasn't made
pub run_stops : (rule : HandlerRule) (old mid new : Serving) (items : List Item) → RunsAll rule old mid
    → StopsAtStore rule mid (flushing mid.table.entries) new items → StopsAtStore rule old (running old.table.entries) new items
run_stops rule old mid new items runs stops =
    stops_behind rule old mid new items (running old.table.entries) (flushing mid.table.entries) runs.stays runs.leads stops

-- one item more, on both sides
pub one_item_more : (pushed items flushed now : List Item) (item : Item) → pushed ≡ items ++ item ∷ [] → items ≡ flushed → now ≡ flushed ++ item ∷ [] → pushed ≡ now
one_item_more pushed items flushed now item push same flush = push ∙ (ap (λ xs. xs ++ item ∷ []) same ∙ sym flush)

-- no step changes the setting
pub works_setting : (rule : HandlerRule) (old new : Serving) (result : Result Bool StartRefused) → Works rule old result new → new.table.setting ≡ old.table.setting
works_setting rule old new (Ok true) (inl ends) = ap (λ s. s.table.setting) ends.adds
works_setting rule old new (Ok true) (inr ran) = ap (λ s. s.table.setting) ran.2.adds ∙ ap (λ s. s.table.setting) ran.1.adds
works_setting rule old new (Ok false) works = ap (λ s. s.table.setting) works.same
works_setting rule old new (Err JournalFull) works = ap (λ s. s.table.setting) works.same
works_setting rule old new (Err Memory) (inl same) = ap (λ s. s.table.setting) same
works_setting rule old new (Err Memory) (inr begins) = ap (λ s. s.table.setting) begins.adds

pub gives_setting : (old new : Serving) (result : Option Item) → Gives old result new → new.table.setting ≡ old.table.setting
gives_setting old new (Some item) gives = ap (λ s. s.table.setting) gives.1
gives_setting old new None gives = ap (λ s. s.table.setting) gives.1

pub feeds_setting : (old new : Serving) (result : Result ℕ StartRefused) → Feeds old result new → new.table.setting ≡ old.table.setting
feeds_setting old new (Ok n) (accepts, inl same) = ap (λ s. s.table.setting) same
feeds_setting old new (Ok n) (accepts, inr takes) = ap (λ s. s.table.setting) takes.adds
feeds_setting old new (Err JournalFull) feeds = ap (λ s. s.table.setting) feeds.1
feeds_setting old new (Err Memory) feeds = ap (λ s. s.table.setting) feeds

-- all ready calls ran, and then each item that waited was flushed
pub run_then_flush : (rule : HandlerRule) (old mid new : Serving) → RunsAll rule old mid → FlushesAll rule mid new → RunsAndFlushes rule old new
run_then_flush rule old mid new runs flushes = record {
  stays = stays_then old mid new runs.stays flushes.stays;
  orderly = flushes.orderly;
  leads = leads_then rule old mid (running old.table.entries) (flushing mid.table.entries) (flushing new.table.entries) runs.stays.setting runs.leads flushes.leads;
  none_waits = flushes.none_waits;
}

pub run_flush_grows : (rule : HandlerRule) (old mid new : Serving) → RunsAll rule old mid → FlushesAll rule mid new → Grows old new
run_flush_grows rule old mid new runs flushes some =
    let grew = runs.grows some in (grew.0, omega (arith, grew.1, flushes.stays.longer))

-- a call is ready again after the flushes, and calls run again
run_again : (rule : HandlerRule) (old now : Serving) → RunsAndFlushes rule old now → SomeReady (deeds now)
    → LeadsTo rule old (running old.table.entries) (running now.table.entries)
run_again rule old now on some =
    leads_turn rule old now (running old.table.entries) (flushing now.table.entries) (running now.table.entries) on.stays.setting on.leads (on.none_waits, some, refl)

-- one round more
pub round_more : (rule : HandlerRule) (old now next : Serving) → RunsAndFlushes rule old now → SomeReady (deeds now) → RunsAndFlushes rule now next
    → RunsAndFlushes rule old next
round_more rule old now next on some round = record {
  stays = stays_then old now next on.stays round.stays;
  orderly = round.orderly;
  leads = leads_then rule old now (running old.table.entries) (running now.table.entries) (flushing next.table.entries) on.stays.setting (run_again rule old now on some) round.leads;
  none_waits = round.none_waits;
}

-- the journal is full in a later round
pub round_full : (rule : HandlerRule) (old now next : Serving) → RunsAndFlushes rule old now → SomeReady (deeds now) → StopsFull rule now next
    → StopsFull rule old next
round_full rule old now next on some stops = record {
  stays = stays_then old now next on.stays stops.stays;
  orderly = stops.orderly;
  leads = leads_then rule old now (running old.table.entries) (running now.table.entries) (running next.table.entries) on.stays.setting (run_again rule old now on some) stops.leads;
  full = stops.full;
  some_ready = stops.some_ready;
}

-- a store action isn't made in a later round
pub round_stops : (rule : HandlerRule) (old now next : Serving) (items : List Item) → RunsAndFlushes rule old now → SomeReady (deeds now)
    → StopsAtStore rule now (running now.table.entries) next items → StopsAtStore rule old (running old.table.entries) next items
round_stops rule old now next items on some stops =
    stops_behind rule old now next items (running old.table.entries) (running now.table.entries) on.stays (run_again rule old now on some) stops

idle_none : (set : Setting) (h : List Entry) (kept : Option ℕ) → is_none kept && none_waiting (history set h) ≡ true → none_waiting (history set h) ≡ true
idle_none set h kept idle = (and_parts (is_none kept) (none_waiting (history set h)) idle).1

pub settles_all : (rule : HandlerRule) (old now : Serving) → RunsAndFlushes rule old now → is_idle now ≡ true → SettlesAll rule old now
settles_all rule old now on idle = record {
  stays = on.stays;
  orderly = on.orderly;
  idle = idle;
  settles = record {
    reaches = on.leads;
    over = record {
      none_ready = subst (λ set. NoneReady (history set now.table.entries)) on.stays.setting
          (none_ready now.table.setting now.table.entries (idle_none now.table.setting now.table.entries now.kept idle));
      none_waits = subst (λ set. NoneWaits (history set now.table.entries)) on.stays.setting on.none_waits;
    };
  };
}
