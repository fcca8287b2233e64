-- Both ends of one transfer, and the words on their way between them.
use Rattle.std.specs.Prelude.{◌≡◌, ℕ, ◌+◌, ◌≤◌, zero, suc, true, List, [], ◌∷◌, ◌++◌, length, Option, Some, None}
use Rattle.rpc_ids.specs.declared.Status.TheVariants.{Okay}
use Rattle.transfer_words.specs.Word.{Word}
use Rattle.transfer_words.specs.Saying.{Saying, Stepped, says, begins, appends, commits, leaves}
use Rattle.transfer_resume.specs.declared.stage.Stage.{Stage}
use Rattle.transfer_resume.specs.declared.stage.Stage.TheVariants as stage
use Rattle.transfer_resume.specs.Session.{Service}
use Rattle.transfer_resume.specs.Hears.{session_hears}
use Rattle.transfer_client.specs.Machine.{Rules}

-- the words among what an end says and does
abbrev pub words_of : List Saying → List Word
words_of [] = []
words_of (says w ∷ ss) = w ∷ words_of ss
words_of (begins resource offset ∷ ss) = words_of ss
words_of (appends bytes ∷ ss) = words_of ss
words_of (commits ∷ ss) = words_of ss
words_of (leaves ∷ ss) = words_of ss

pub record Pair (C : Type 0) : Type 0 where
  -- where the session stands at the service, if it is there
  pub server : Option Stage
  -- where the client stands
  pub client : C
  -- the words on their way, the oldest first
  pub to_server : List Word
  pub to_client : List Word
  -- how many words were said
  pub said : ℕ

module _ {C : Type 0} where
  -- the service has heard the oldest word, and what it says goes behind all that is on its way
  abbrev pub server_said : Pair C → List Word → Stepped (Option Stage) → Pair C
  server_said w rest step = record {
    server = step.after;
    client = w.client;
    to_server = rest;
    to_client = w.to_client ++ words_of step.sayings;
    said = w.said + length (words_of step.sayings);
  }

  -- so has the client
  abbrev pub client_said : Pair C → List Word → Stepped C → Pair C
  client_said w rest step = record {
    server = w.server;
    client = step.after;
    to_server = w.to_server ++ words_of step.sayings;
    to_client = rest;
    said = w.said + length (words_of step.sayings);
  }

-- the service takes all of these words without a word, and the session stands so then
abbrev pub TakesInSilence : Service → Option Stage → List Word → Option Stage → Type 0
TakesInSilence service server [] after = server ≡ after
TakesInSilence service server (c ∷ rest) after =
    (words_of (session_hears service true server c).sayings ≡ []) × TakesInSilence service (session_hears service true server c).after rest after

-- a call with room for the session, and a client, by its rules, at a moment
module _ {C : Type 0} (service : Service) (rules : Rules C) (now : ℕ) where
  abbrev pub turn_by : Pair C → List Word → List Word → Option (Pair C)
  turn_by w (c ∷ rest) downs = Some (server_said w rest (session_hears service true w.server c))
  turn_by w [] (c ∷ rest) = Some (client_said w rest (rules.hears w.client c now))
  turn_by w [] [] = None

  -- the oldest word to the server is delivered, or the oldest one to the client where there is none; where no word is on its
  -- way, only time could go on
  abbrev pub turn : Pair C → Option (Pair C)
  turn w = turn_by w w.to_server w.to_client

  -- so many turns lead from one pair to another: each delivers a word, and the client has ended before none of them
  abbrev pub LeadsTo : ℕ → Pair C → Pair C → Type 0
  LeadsTo zero w last = w ≡ last
  LeadsTo (suc n) w last = (next : Pair C) × ((rules.end_of w.client ≡ None) × ((turn w ≡ Some next) × LeadsTo n next last))

  -- the client has begun, and what it says is on its way
  abbrev pub first : C → Pair C
  first t = client_said (record { server = None; client = t; to_server = []; to_client = []; said = 0 }) [] (rules.opens t now)

  -- The client comes to this end, and no more words than so many were said. Nothing is on its way to it then, and what is on its
  -- way to the service is taken in silence: the session stands so behind it.
  pub record EndsSo (w : Pair C) (end : C) (session : Option Stage) (most : ℕ) : Type 0 where
    pub turns : ℕ
    pub last : Pair C
    pub way : LeadsTo turns w last
    pub client : last.client ≡ end
    pub to_client : last.to_client ≡ []
    pub server : TakesInSilence service last.server last.to_server session
    pub few : last.said ≤ most

  -- both ends come to this end with OK
  abbrev pub EndsWell : Pair C → C → ℕ → Type 0
  EndsWell w end most = EndsSo w end (Some (stage.Ended Okay)) most
