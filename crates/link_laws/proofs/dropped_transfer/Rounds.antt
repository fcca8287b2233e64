-- In which round a packet is numbered, and what was lost by the end of the first rounds.
use Rattle.std.proofs.Common.{◌≡◌, ℕ, zero, suc, ◌+◌, ◌<◌, ◌≤◌, ◌||◌, ◌⊎◌, inl, inr, Bool, true, false, if◌then◌else◌, List, [], ◌∷◌, ◌++◌, length, Option, Some, None, refl, ap, sym, ◌∙◌, subst, arith}
use Rattle.std.proofs.lemmas.Bool.{ne_eqb}
use Rattle.link_script.specs.declared.command.Command.{Command}
use Rattle.link_script.specs.declared.command.Command.TheVariants.{Read, Write, Echo, Count, Sum, Chat, Close}
use Rattle.rpc_ids.specs.declared.Status.{Status}
use Rattle.transfer_base.specs.declared.limits.TheConstants.{TIMEOUT}
use Rattle.transfer_words.specs.Word.{Word}
use Rattle.transfer_client.specs.Machine.{Rules}
use Rattle.transfer_resume.specs.Session.{Service}
use Rattle.transfer_resume.specs.Hears.{session_hears}
use Rattle.transfer_laws.specs.losses.Drops.{LeadsTo, Lost, LossyPair, at_time, lost_at, missing, session_ticks, step, step_by, waits_by}
use Rattle.transfer_laws.specs.pairs.Pair.{words_of}
use Rattle.transfer_laws.specs.losses.Rounds.{is_lossy}
use Rattle.link_laws.specs.world.Lines.{finished}
use Rattle.link_laws.specs.world.Starts.{starts, Asks, StartTurn, with_command}
use Rattle.link_laws.specs.world.Turns.{TimePasses, Turn, TurnOf, Turns, kind_by, later, with_frame_at_client, with_frame_at_server}
use Rattle.link_laws.specs.world.World.{with_task, Setup, Under, World, calling, closing, lacking, transferring, with_client, with_server}
use Rattle.link_laws.proofs.one_run.Keeping.{finish_keeps}
use Rattle.link_laws.proofs.one_run.Parts.{client_keeps, server_keeps}
use Rattle.link_laws.specs.dropped_transfer.Rounds.{IsNumberedAt}
use Rattle.link_laws.proofs.dropped_transfer.Chain.{step_later}

less_or_not : (a b : ℕ) → (a < b) ⊎ (b ≤ a)
less_or_not a zero = inr (omega arith)
less_or_not zero (suc b) = inl (omega arith)
less_or_not (suc a) (suc b) = by (less_or_not a b)
  where
    by : (a < b) ⊎ (b ≤ a) → (suc a < suc b) ⊎ (suc b ≤ suc a)
    by (inl less) = inl (omega (arith, less))
    by (inr more) = inr (omega (arith, more))

-- THE TURNS OF TIME never become fewer
module _ (k : Setup) where
  server_worked : (v now : World) (after : _) → now ≡ finished k (with_server k v after) → now.times ≡ v.times
  server_worked v now after is =
      ap (λ (w : World). w.times) is ∙ (finish_keeps k (λ w. w.times) (λ w lines. refl) (λ w a b. refl) (with_server k v after) ∙ server_keeps k (λ w. w.times) (λ w p. refl) v after)

  client_worked : (v now : World) (after : _) → now ≡ finished k (with_client k v after) → now.times ≡ v.times
  client_worked v now after is =
      ap (λ (w : World). w.times) is ∙ (finish_keeps k (λ w. w.times) (λ w lines. refl) (λ w a b. refl) (with_client k v after) ∙ client_keeps k (λ w. w.times) (λ w p. refl) v after)

  asks_times : (w now : World) (command : Command) (rest : List Command) → Asks k w command rest now → now.times ≡ w.times
  asks_times w now command rest t = client_worked (with_task t.task (with_command w rest (starts k w command))) now t.after t.is

  starts_times : (w now : World) (command : Command) (rest : List Command) → StartTurn k w command rest now → now.times ≡ w.times
  starts_times w now (Close channel) rest t = server_worked (with_command w rest (starts k w (Close channel))) now t.after t.is
  starts_times w now (Read resource offset) rest t = asks_times w now (Read resource offset) rest t
  starts_times w now (Write resource offset) rest t = asks_times w now (Write resource offset) rest t
  starts_times w now (Echo bytes) rest t = asks_times w now (Echo bytes) rest t
  starts_times w now (Count n) rest t = asks_times w now (Count n) rest t
  starts_times w now (Sum bytes) rest t = asks_times w now (Sum bytes) rest t
  starts_times w now (Chat bytes) rest t = asks_times w now (Chat bytes) rest t

  time_passes : (w now : World) → TimePasses k w now → w.times ≤ now.times
  time_passes w now t =
      let v : World = with_task t.task (later w) in
      omega (arith, server_worked (with_client k v t.client) now t.server t.is, client_keeps k (λ x. x.times) (λ x p. refl) v t.client)

  turn_later : (w now : World) → Turn k w now → w.times ≤ now.times
  turn_later w now turn = by_kind w.to_server.frames w.to_client.frames w.under w.coming turn
    where
      by_kind : (ups downs : List (List ℕ)) (under : Option Under) (coming : List Command) → TurnOf k w (kind_by ups downs under coming) now → w.times ≤ now.times
      by_kind (frame ∷ rest) downs under coming t = omega (arith, server_worked (with_frame_at_server w frame rest) now t.after t.is)
      by_kind [] (frame ∷ rest) under coming t = omega (arith, client_worked (with_task t.task (with_frame_at_client w frame rest)) now t.after t.is)
      by_kind [] [] None [] t = absurd t
      by_kind [] [] None (command ∷ rest) t = omega (arith, starts_times w now command rest t)
      by_kind [] [] (Some (transferring task)) coming t = time_passes w now t
      by_kind [] [] (Some (lacking resource)) coming t = time_passes w now t
      by_kind [] [] (Some (calling plain call)) coming t = omega (arith, client_worked w now t.after t.is)
      by_kind [] [] (Some (closing channel ended)) coming t = time_passes w now t

  pub turns_later : (n : ℕ) (w now : World) → Turns k n w now → w.times ≤ now.times
  turns_later zero w now same = omega (arith, ap (λ (v : World). v.times) same)
  turns_later (suc n) w now turns = omega (arith, turn_later w turns.0 turns.1.turn, turns_later n turns.0 now turns.2)

  -- ON A WAY ON WHICH NO TIME PASSES each packet is numbered at its moment
  pub numbered_at_once : (n : ℕ) (start far : World) (place : ℕ) → Turns k n start far → length start.numbered ≤ place → place < length far.numbered → far.times ≡ start.times
      → IsNumberedAt k start place start.times
  numbered_at_once zero start far place same old new times = absurd (omega (arith, old, new, ap (λ (v : World). length v.numbered) same))
  numbered_at_once (suc n) start far place turns old new times =
      by_order (less_or_not place (length turns.0.numbered)) (λ behind. numbered_at_once n turns.0 far place turns.2 behind new (times ∙ sym still))
    where
      still : turns.0.times ≡ start.times
      still = omega (arith, times, turn_later start turns.0 turns.1.turn, turns_later n turns.0 far turns.2)

      by_order : (place < length turns.0.numbered) ⊎ (length turns.0.numbered ≤ place) → (length turns.0.numbered ≤ place → IsNumberedAt k turns.0 place turns.0.times) → IsNumberedAt k start place start.times
      by_order (inl now) rest = record { count = zero; before = start; after = turns.0; way = refl; turn = turns.1; later = old; there = now; times_are = still }
      by_order (inr behind) rest =
          let at : IsNumberedAt k turns.0 place turns.0.times = rest behind in
          record {
            count = suc at.count;
            before = at.before;
            after = at.after;
            way = (turns.0, turns.1, at.way);
            turn = at.turn;
            later = at.later;
            there = at.there;
            times_are = at.times_are ∙ still;
          }

-- WHAT IS LOST BY A MOMENT is lost on the way to the last pair that isn't later
module _ {C : Type 0} (service : Service) (rules : Rules C) (loses : ℕ → Bool) where
  not_now : (ws : List Word) (lost : List Lost) (now said moment : ℕ) → moment < now → is_lossy (missing loses now said ws ++ lost) moment ≡ true → is_lossy lost moment ≡ true
  not_now [] lost now said moment before is = is
  not_now (w ∷ ws) lost now said moment before is = by_loss (loses (suc said)) (not_now ws lost now (suc said) moment before) is
    where
      by_loss : (b : Bool) → (is_lossy (missing loses now (suc said) ws ++ lost) moment ≡ true → is_lossy lost moment ≡ true)
          → is_lossy ((if b then lost_at now w ∷ missing loses now (suc said) ws else missing loses now (suc said) ws) ++ lost) moment ≡ true → is_lossy lost moment ≡ true
      by_loss true rest is = rest (sym (ap (λ b. b || is_lossy (missing loses now (suc said) ws ++ lost) moment) (ne_eqb now moment (λ same. omega (arith, same, before)))) ∙ is)
      by_loss false rest is = rest is

  waits_keep : (w : LossyPair C) (o : Option Status) (moment : ℕ) → moment < (waits_by service rules loses w o).now → is_lossy (waits_by service rules loses w o).lost moment ≡ true → is_lossy w.lost moment ≡ true
  waits_keep w None moment before is =
      let now : ℕ = w.now + TIMEOUT in
      let ups : List Word = words_of (rules.ticks w.pair.client now).sayings in
      not_now ups w.lost now w.pair.said moment before
      (not_now (words_of (session_ticks service.side now w.pair.server).sayings) (missing loses now w.pair.said ups ++ w.lost) now (w.pair.said + length ups) moment before is)
  waits_keep w (Some status) moment before is = is

  step_keeps : (w : LossyPair C) (ups downs : List Word) (moment : ℕ) → moment < (step_by service rules loses w ups downs).now → is_lossy (step_by service rules loses w ups downs).lost moment ≡ true
      → is_lossy w.lost moment ≡ true
  step_keeps w (c ∷ rest) downs moment before is = not_now (words_of (session_hears (at_time service w.time) true w.pair.server c).sayings) w.lost w.now w.pair.said moment before is
  step_keeps w [] (c ∷ rest) moment before is = not_now (words_of (rules.hears w.pair.client c w.now).sayings) w.lost w.now w.pair.said moment before is
  step_keeps w [] [] moment before is = waits_keep w (rules.end_of w.pair.client) moment before is

  later_keep : (n : ℕ) (w last : LossyPair C) (moment : ℕ) → moment < w.now → LeadsTo service rules loses n w last → is_lossy last.lost moment ≡ true → is_lossy w.lost moment ≡ true
  later_keep zero w last moment before same is = subst (λ (v : LossyPair C). is_lossy v.lost moment ≡ true) (sym same) is
  later_keep (suc n) w last moment before leads is =
      let next : w.now ≤ (step service rules loses w).now = step_later service rules loses w w.pair.to_server w.pair.to_client in
      let so : moment < (step service rules loses w).now = omega (arith, before, next) in
      step_keeps w w.pair.to_server w.pair.to_client moment so (later_keep n (step service rules loses w) last moment so leads.1 is)

  pub record IsBy (until : ℕ) (w last : LossyPair C) : Type 0 where
    pub count : ℕ
    pub mid : LossyPair C
    pub way : LeadsTo service rules loses count w mid
    pub soon : mid.now ≤ until
    pub lost : (moment : ℕ) → moment ≤ until → is_lossy last.lost moment ≡ true → is_lossy mid.lost moment ≡ true

  pub last_by : (until n : ℕ) (w last : LossyPair C) → w.now ≤ until → LeadsTo service rules loses n w last → IsBy until w last
  last_by until zero w last soon same = record { count = zero; mid = w; way = refl; soon = soon; lost = λ moment before is. subst (λ (v : LossyPair C). is_lossy v.lost moment ≡ true) (sym same) is }
  last_by until (suc n) w last soon leads = by_order (less_or_not until (step service rules loses w).now) (λ before. last_by until n (step service rules loses w) last before leads.1)
    where
      by_order : (until < (step service rules loses w).now) ⊎ ((step service rules loses w).now ≤ until) → ((step service rules loses w).now ≤ until → IsBy until (step service rules loses w) last) → IsBy until w last
      by_order (inl past) rest = record {
        count = zero;
        mid = w;
        way = refl;
        soon = soon;
        lost = λ moment before is.
            let so : moment < (step service rules loses w).now = omega (arith, before, past) in
            step_keeps w w.pair.to_server w.pair.to_client moment so (later_keep n (step service rules loses w) last moment so leads.1 is);
      }
      by_order (inr before) rest =
          let on : IsBy until (step service rules loses w) last = rest before in
          record { count = suc on.count; mid = on.mid; way = (leads.0, on.way); soon = on.soon; lost = on.lost }
