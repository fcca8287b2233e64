-- Both ends of one transfer over links that lose words and keep the order, and the time.
use Rattle.std.specs.Prelude.{◌≡◌, ℕ, zero, suc, ◌+◌, Bool, true, if◌then◌else◌, List, [], ◌∷◌, ◌++◌, length, Option, Some, None}
use Rattle.rpc_ids.specs.declared.Status.{Status}
use Rattle.transfer_base.specs.declared.limits.TheConstants.{TIMEOUT}
use Rattle.transfer_words.specs.Word.{Word}
use Rattle.transfer_words.specs.Saying.{Stepped}
use Rattle.transfer_resume.specs.declared.side.Side.{Side}
use Rattle.transfer_resume.specs.declared.stage.Stage.{Stage}
use Rattle.transfer_resume.specs.Session.{Service, stepped}
use Rattle.transfer_resume.specs.Hears.{session_hears}
use Rattle.transfer_resume.specs.Ticks.{stage_ticks}
use Rattle.transfer_client.specs.Machine.{Rules}
use Rattle.transfer_laws.specs.pairs.Pair.{Pair, words_of}

-- The words that are said in a session have numbers, from 1 on. It is known of each number whether its word is lost.

-- a word that was lost, and the moment at the client
pub record Lost : Type 0 where
  pub word : Word
  pub moment : ℕ

abbrev pub lost_at : ℕ → Word → Lost
lost_at now w = record { word = w; moment = now }

-- of words that are said behind so many others, those that go on
abbrev pub kept : (ℕ → Bool) → ℕ → List Word → List Word
kept loses said [] = []
kept loses said (w ∷ ws) = if loses (suc said) then kept loses (suc said) ws else w ∷ kept loses (suc said) ws

-- and those that don't, at this moment
abbrev pub missing : (ℕ → Bool) → ℕ → ℕ → List Word → List Lost
missing loses now said [] = []
missing loses now said (w ∷ ws) = if loses (suc said) then lost_at now w ∷ missing loses now (suc said) ws else missing loses now (suc said) ws

pub record LossyPair (C : Type 0) : Type 0 where
  pub pair : Pair C
  -- the words that were lost, the last ones first
  pub lost : List Lost
  -- the moment at the client, and that of the service's last tick
  pub now : ℕ
  pub time : ℕ

-- the service behind a tick of this moment
abbrev pub at_time : Service → ℕ → Service
at_time service time = record service { time = time }

-- what a session makes of the time, if it is there
abbrev pub session_ticks : Side → ℕ → Option Stage → Stepped (Option Stage)
session_ticks side now None = record { after = None; sayings = [] }
session_ticks side now (Some stage) = stepped (stage_ticks side now stage)

module _ {C : Type 0} (loses : ℕ → Bool) where
  -- the service has heard a word, and what it says goes behind all that is on its way, unless it is lost
  abbrev pub server_heard : LossyPair C → List Word → Stepped (Option Stage) → LossyPair C
  server_heard w rest step = record {
    pair = record {
      server = step.after;
      client = w.pair.client;
      to_server = rest;
      to_client = w.pair.to_client ++ kept loses w.pair.said (words_of step.sayings);
      said = w.pair.said + length (words_of step.sayings);
    };
    lost = missing loses w.now w.pair.said (words_of step.sayings) ++ w.lost;
    now = w.now;
    time = w.time;
  }

  -- so has the client
  abbrev pub client_heard : LossyPair C → List Word → Stepped C → LossyPair C
  client_heard w rest step = record {
    pair = record {
      server = w.pair.server;
      client = step.after;
      to_server = w.pair.to_server ++ kept loses w.pair.said (words_of step.sayings);
      to_client = rest;
      said = w.pair.said + length (words_of step.sayings);
    };
    lost = missing loses w.now w.pair.said (words_of step.sayings) ++ w.lost;
    now = w.now;
    time = w.time;
  }

  -- it is so late: the client has looked at the time, and then the service has
  abbrev pub time_passed : LossyPair C → ℕ → Stepped C → Stepped (Option Stage) → LossyPair C
  time_passed w now step tick = record {
    pair = record {
      server = tick.after;
      client = step.after;
      to_server = kept loses w.pair.said (words_of step.sayings);
      to_client = kept loses (w.pair.said + length (words_of step.sayings)) (words_of tick.sayings);
      said = w.pair.said + length (words_of step.sayings) + length (words_of tick.sayings);
    };
    lost = missing loses now (w.pair.said + length (words_of step.sayings)) (words_of tick.sayings) ++ (missing loses now w.pair.said (words_of step.sayings) ++ w.lost);
    now = now;
    time = now;
  }

-- a call with room for the session, and a client, by its rules
module _ {C : Type 0} (service : Service) (rules : Rules C) (loses : ℕ → Bool) where
  -- where no word is on its way, time passes until the timeout, unless the client has ended
  abbrev pub waits_by : LossyPair C → Option Status → LossyPair C
  waits_by w None = time_passed loses w (w.now + TIMEOUT) (rules.ticks w.pair.client (w.now + TIMEOUT)) (session_ticks service.side (w.now + TIMEOUT) w.pair.server)
  waits_by w (Some status) = w

  abbrev pub step_by : LossyPair C → List Word → List Word → LossyPair C
  step_by w (c ∷ rest) downs = server_heard loses w rest (session_hears (at_time service w.time) true w.pair.server c)
  step_by w [] (c ∷ rest) = client_heard loses w rest (rules.hears w.pair.client c w.now)
  step_by w [] [] = waits_by w (rules.end_of w.pair.client)

  -- the oldest word to the server is delivered, or the oldest one to the client where there is none; where no word is on its
  -- way, time passes
  abbrev pub step : LossyPair C → LossyPair C
  step w = step_by w w.pair.to_server w.pair.to_client

  abbrev pub steps : ℕ → LossyPair C → LossyPair C
  steps zero w = w
  steps (suc n) w = steps n (step w)

  -- so many steps lead from one pair to another, and the client has ended before none of them
  abbrev pub LeadsTo : ℕ → LossyPair C → LossyPair C → Type 0
  LeadsTo zero w last = w ≡ last
  LeadsTo (suc n) w last = (rules.end_of w.pair.client ≡ None) × LeadsTo n (step w) last

  -- the client has begun at a moment, and what it said is on its way, unless it was lost
  abbrev pub begun : ℕ → ℕ → C → LossyPair C
  begun now time t =
      client_heard loses (record { pair = record { server = None; client = t; to_server = []; to_client = []; said = 0 }; lost = []; now = now; time = time }) [] (rules.opens t now)
