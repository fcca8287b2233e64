-- The driver's pass together with its errand.
use Rattle.std.proofs.Common.{◌≡◌, ℕ, Bool, true, false, List, [], ◌∷◌, ◌++◌, Option, Some, is_some, Result, Ok, Err, OnOk, refl, ap, sym, ◌∙◌, subst}
use Rattle.std.proofs.lemmas.Bool.{false≢true}
use Rattle.std.proofs.lemmas.List.{append-nil}
use Rattle.rpc_ids.specs.declared.status.Status.{Status}
use Rattle.live_client.specs.declared.asks.utterance.Utterance.{Utterance}
use Rattle.rpc_handlers.specs.declared.event.Event.{Event}
use Rattle.rpc_journal.specs.declared.entry.EntryKind.{EntryKind}
use Rattle.rpc_journal.specs.declared.entry.EntryKind.TheVariants.{Cancel}
use Rattle.rpc_journal.specs.declared.item.Item.{Item}
use Rattle.rpc_shared.specs.session.Crew.{Lock, Seat}
use Rattle.live_client.specs.Driving.{Calm, Cuts, Drives, EndsRun, Speaks, Talks, is_flushing, is_running, is_saying}
use Rattle.live_client.specs.Histories.{is_cancel, is_completion}
use Rattle.live_client.specs.asks.Tasks.{Given, given_at, mails}
use Rattle.live_client.specs.asks.Telling.{Progress, said_all, unknown, when_over}
use Rattle.live_client.proofs.StepsOf.{cut_on}

pub run_uncancelled : (kind : EntryKind) → is_running kind ≡ true → is_cancel kind ≡ false
run_uncancelled (Cancel c) is = absurd cc
run_uncancelled _ is = refl

pub say_uncancelled : (kind : EntryKind) → is_saying kind ≡ true → is_cancel kind ≡ false
say_uncancelled (Cancel c) is = absurd cc
say_uncancelled _ is = refl

pub flush_uncancelled : (kind : EntryKind) → is_flushing kind ≡ true → is_cancel kind ≡ false
flush_uncancelled (Cancel c) is = absurd cc
flush_uncancelled _ is = refl

abbrev pub Did : Type 1
Did = Option Status → List Event → List Given → Option Status → Type 0

-- what an errand has heard, where it had ended and where that isn't known
pub hears_far : (did : Did) (far : Progress → Did) (uncut : Type 0) (event : Event)
    → ((cut : Option Status) (events : List Event) (outs : List Given) (ended : Option Status) → did cut events outs ended
    → (next : Option Status) × far unknown cut (events ++ event ∷ []) outs next × (is_some ended ≡ true → (next ≡ ended) × uncut × far said_all cut (events ++ event ∷ []) outs next))
    → (over : Bool) (cut : Option Status) (events : List Event) (outs : List Given) (ended : Option Status) → (over ≡ true → is_some ended ≡ true) → did cut events outs ended
    → (next : Option Status) × far (when_over over) cut (events ++ event ∷ []) outs next × (is_some ended ≡ true → (next ≡ ended) × uncut)
hears_far did far uncut event heard true cut events outs ended is so = let next = heard cut events outs ended so in (next.0, (next.2 (is refl)).2, λ ends. ((next.2 ends).0, (next.2 ends).1))
hears_far did far uncut event heard false cut events outs ended is so = let next = heard cut events outs ended so in (next.0, next.1, λ ends. ((next.2 ends).0, (next.2 ends).1))

pub far_weaker : (far : Progress → Did) → ((cut : Option Status) (events : List Event) (outs : List Given) (ended : Option Status) → far said_all cut events outs ended → far unknown cut events outs ended)
    → (over : Bool) (cut : Option Status) (events : List Event) (outs : List Given) (ended : Option Status) → far said_all cut events outs ended → far (when_over over) cut events outs ended
far_weaker far weaker true cut events outs ended so = so
far_weaker far weaker false cut events outs ended so = weaker cut events outs ended so

-- where a run of an event can only answer that it was heard
pub not_heard : {E : Type 0} (result : Result Bool E) → OnOk result (result ≡ Ok true) → result ≡ Ok false → ⊥
not_heard (Ok b) heard is = absurd (cc (heard, is))
not_heard (Err e) heard is = absurd (cc is)

module _ (watches : Bool) (opening : EntryKind) (r : Lock) (c : ℕ) (did now : Did) (items : List Item) where
  -- a step that runs nothing to its end and says nothing
  pub talks_calm : (whole over : Bool) (test : EntryKind → Bool) (p q : Seat) → ((kind : EntryKind) → test kind ≡ true → is_cancel kind ≡ false) → Calm r c test p q
      → ((cut : Option Status) (events : List Event) (outs : List Given) (ended : Option Status) → did cut events outs ended → now cut events outs ended)
      → Talks watches opening did r c whole over items p → Talks watches opening now r c whole over items q
  talks_calm whole over test p q none calm same t = record {
    cut = t.cut;
    events = t.events;
    outs = t.outs;
    lost = t.lost;
    ended = t.ended;
    drives = calm.drives watches opening t.events t.outs items t.drives;
    quiet = cut_on r c test t.cut p q none calm.adds t.quiet;
    heard = same t.cut t.events (t.outs ++ t.lost) t.ended t.heard;
    none_lost = t.none_lost;
    is_over = t.is_over;
  }

  -- the errand goes on
  pub talks_on : (whole over : Bool) (p : Seat)
      → ((cut : Option Status) (events : List Event) (outs : List Given) (ended : Option Status) → did cut events outs ended → (next : Option Status) × now cut events outs next)
      → Talks watches opening did r c whole over items p → Talks watches opening now r c whole false items p
  talks_on whole over p goes t =
      let next = goes t.cut t.events (t.outs ++ t.lost) t.ended t.heard in
      record {
        cut = t.cut;
        events = t.events;
        outs = t.outs;
        lost = t.lost;
        ended = next.0;
        drives = t.drives;
        quiet = t.quiet;
        heard = next.1;
        none_lost = t.none_lost;
        is_over = λ is. absurd (false≢true is);
      }

  -- the same, of what is known of the errand alone
  pub talks_same : (whole over : Bool) (p : Seat)
      → ((cut : Option Status) (events : List Event) (outs : List Given) (ended : Option Status) → did cut events outs ended → now cut events outs ended)
      → Talks watches opening did r c whole over items p → Talks watches opening now r c whole over items p
  talks_same whole over p same t = record {
    cut = t.cut;
    events = t.events;
    outs = t.outs;
    lost = t.lost;
    ended = t.ended;
    drives = t.drives;
    quiet = t.quiet;
    heard = same t.cut t.events (t.outs ++ t.lost) t.ended t.heard;
    none_lost = t.none_lost;
    is_over = t.is_over;
  }

  -- the errand hears an event, whose run ends
  module _ (uncut : Type 0) (over : Bool) (event : Event) (p q : Seat) (ends : EndsRun r c event p q)
      (hears : (cut : Option Status) (events : List Event) (outs : List Given) (ended : Option Status) → (over ≡ true → is_some ended ≡ true) → did cut events outs ended
      → (next : Option Status) × now cut (events ++ event ∷ []) outs next × (is_some ended ≡ true → (next ≡ ended) × uncut)) where
    pub talks_heard : (whole : Bool) → Talks watches opening did r c whole over items p → Talks watches opening now r c whole over items q
    talks_heard whole t =
        let next = hears t.cut t.events (t.outs ++ t.lost) t.ended t.is_over t.heard in
        record {
          cut = t.cut;
          events = t.events ++ event ∷ [];
          outs = t.outs;
          lost = t.lost;
          ended = next.0;
          drives = ends.drives watches opening t.events t.outs items t.drives;
          quiet = cut_on r c is_running t.cut p q run_uncancelled ends.adds t.quiet;
          heard = next.1;
          none_lost = t.none_lost;
          is_over = λ is. ap is_some (next.2 (t.is_over is)).0 ∙ t.is_over is;
        }

    pub over_uncut : (whole : Bool) → over ≡ true → Talks watches opening did r c whole over items p → uncut
    over_uncut whole is t = ((hears t.cut t.events (t.outs ++ t.lost) t.ended t.is_over t.heard).2 (t.is_over is)).1

  -- what the errand gives is said or refused
  module _ (out : Utterance) (p q : Seat) (completes : is_completion out ≡ true → watches ≡ true)
      (gives : (cut : Option Status) (events : List Event) (outs : List Given) (ended : Option Status) → did cut events outs ended → now cut events (outs ++ given_at (mails events) out ∷ []) ended) where
    given : (t : Talks watches opening did r c true false items p) → now t.cut t.events (t.outs ++ given_at (mails t.events) out ∷ []) t.ended
    given t =
        gives t.cut t.events t.outs t.ended
        (subst (λ os. did t.cut t.events os t.ended) (ap (λ lost. t.outs ++ lost) (t.none_lost refl) ∙ append-nil t.outs) t.heard)

    pub talks_said : Speaks r c out p q → Talks watches opening did r c true false items p → Talks watches opening now r c true false items q
    talks_said speaks t = record {
      cut = t.cut;
      events = t.events;
      outs = t.outs ++ given_at (mails t.events) out ∷ [];
      lost = [];
      ended = t.ended;
      drives = speaks.drives watches opening t.events t.outs items completes t.drives;
      quiet = cut_on r c is_saying t.cut p q say_uncancelled speaks.adds t.quiet;
      heard = subst (λ os. now t.cut t.events os t.ended) (sym (append-nil (t.outs ++ given_at (mails t.events) out ∷ []))) (given t);
      none_lost = λ _. refl;
      is_over = λ is. absurd (false≢true is);
    }

    pub talks_unsaid : Calm r c is_saying p q → Talks watches opening did r c true false items p → Talks watches opening now r c false false items q
    talks_unsaid calm t = record {
      cut = t.cut;
      events = t.events;
      outs = t.outs;
      lost = given_at (mails t.events) out ∷ [];
      ended = t.ended;
      drives = calm.drives watches opening t.events t.outs items t.drives;
      quiet = cut_on r c is_saying t.cut p q say_uncancelled calm.adds t.quiet;
      heard = given t;
      none_lost = λ is. absurd (false≢true is);
      is_over = λ is. absurd (false≢true is);
    }

  -- the call is cancelled, which answers a status
  pub talks_cut : (whole over : Bool) (status : Status) (p q : Seat) → watches ≡ true → Cuts r c status p q
      → ((cut : Option Status) (events : List Event) (outs : List Given) (ended : Option Status) → did cut events outs ended → (next : Option Status) × now (Some status) events outs next)
      → Talks watches opening did r c whole over items p → Talks watches opening now r c whole false items q
  talks_cut whole over status p q watching cuts tells t =
      let next = tells t.cut t.events (t.outs ++ t.lost) t.ended t.heard in
      record {
        cut = Some status;
        events = t.events;
        outs = t.outs;
        lost = t.lost;
        ended = next.0;
        drives =
            subst (λ w. Drives w opening r c t.events t.outs items q) (sym watching)
            (cuts.drives opening t.events t.outs items (subst (λ w. Drives w opening r c t.events t.outs items p) watching t.drives));
        quiet = cuts.cut;
        heard = next.1;
        none_lost = t.none_lost;
        is_over = λ is. absurd (false≢true is);
      }

  -- some of what is known
  pub talks_weaker : (whole over : Bool) (p : Seat) → Talks watches opening did r c whole over items p → Talks watches opening did r c false false items p
  talks_weaker whole over p t = record {
    cut = t.cut;
    events = t.events;
    outs = t.outs;
    lost = t.lost;
    ended = t.ended;
    drives = t.drives;
    quiet = t.quiet;
    heard = t.heard;
    none_lost = λ is. absurd (false≢true is);
    is_over = λ is. absurd (false≢true is);
  }

  -- it isn't known whether it is over
  pub talks_open : (whole over : Bool) (p : Seat) → Talks watches opening did r c whole over items p → Talks watches opening did r c whole false items p
  talks_open whole over p t = record {
    cut = t.cut;
    events = t.events;
    outs = t.outs;
    lost = t.lost;
    ended = t.ended;
    drives = t.drives;
    quiet = t.quiet;
    heard = t.heard;
    none_lost = t.none_lost;
    is_over = λ is. absurd (false≢true is);
  }
