-- What leads from a world to each later one of a run, where each step of a turn leads so; and lists that only grow.
use Rattle.std.proofs.Common.{◌≡◌, ℕ, zero, suc, List, [], ◌∷◌, ◌++◌, Option, Some, None, sym, ◌∙◌, ap, subst, append_assoc}
use Rattle.std.proofs.lemmas.List.{append-nil}
use Rattle.link_script.specs.declared.command.Command.{Command}
use Rattle.link_script.specs.declared.command.Command.TheVariants.{Read, Write, Echo, Count, Sum, Chat, Close}
use Rattle.rpc_journal.specs.declared.entry.Entry.{Entry}
use Rattle.link_laws.specs.world.Lines.{finished}
use Rattle.link_laws.specs.world.Starts.{Asks, StartTurn, Started, starts, with_command}
use Rattle.link_laws.specs.world.Turns.{TimePasses, Turn, TurnOf, Turns, kind_by, later, with_frame_at_client, with_frame_at_server}
use Rattle.link_laws.specs.world.World.{Setup, Tasked, Under, World, calling, closing, lacking, transferring, with_client, with_server, with_task}

-- each step of a turn leads so, and such steps lead so together
pub record LeadsAlong (k : Setup) (R : World → World → Type 0) : Type 0 where
  pub none : (a : World) → R a a
  pub both : (a b c : World) → R a b → R b c → R a c
  pub server : (v : World) (after : List Entry) → R v (with_server k v after)
  pub client : (v : World) (after : List Entry) → R v (with_client k v after)
  pub ends : (v : World) → R v (finished k v)
  pub command : (v : World) (rest : List Command) (s : Started) → R v (with_command v rest s)
  pub task : (v : World) (task : Option Tasked) → R v (with_task task v)
  pub up : (v : World) (frame : List ℕ) (rest : List (List ℕ)) → R v (with_frame_at_server v frame rest)
  pub down : (v : World) (frame : List ℕ) (rest : List (List ℕ)) → R v (with_frame_at_client v frame rest)
  pub time : (v : World) → R v (later v)

module _ (k : Setup) (R : World → World → Type 0) (by : LeadsAlong k R) where
  server_worked : (w v now : World) (after : List Entry) → R w v → now ≡ finished k (with_server k v after) → R w now
  server_worked w v now after so is =
      let worked : World = with_server k v after in
      subst (R w) (sym is) (by.both w worked (finished k worked) (by.both w v worked so (by.server v after)) (by.ends worked))

  client_worked : (w v now : World) (after : List Entry) → R w v → now ≡ finished k (with_client k v after) → R w now
  client_worked w v now after so is =
      let worked : World = with_client k v after in
      subst (R w) (sym is) (by.both w worked (finished k worked) (by.both w v worked so (by.client v after)) (by.ends worked))

  asks : (w now : World) (command : Command) (rest : List Command) → Asks k w command rest now → R w now
  asks w now command rest t =
      let v : World = with_command w rest (starts k w command) in
      client_worked w (with_task t.task v) now t.after (by.both w v (with_task t.task v) (by.command w rest (starts k w command)) (by.task v t.task)) t.is

  start : (w now : World) (command : Command) (rest : List Command) → StartTurn k w command rest now → R w now
  start w now (Close channel) rest t =
      server_worked w (with_command w rest (starts k w (Close channel))) now t.after (by.command w rest (starts k w (Close channel))) t.is
  start w now (Read resource offset) rest t = asks w now (Read resource offset) rest t
  start w now (Write resource offset) rest t = asks w now (Write resource offset) rest t
  start w now (Echo bytes) rest t = asks w now (Echo bytes) rest t
  start w now (Count n) rest t = asks w now (Count n) rest t
  start w now (Sum bytes) rest t = asks w now (Sum bytes) rest t
  start w now (Chat bytes) rest t = asks w now (Chat bytes) rest t

  times : (w now : World) → TimePasses k w now → R w now
  times w now t =
      let v : World = with_task t.task (later w) in
      let y : World = with_client k v t.client in
      server_worked w y now t.server
      (by.both w v y (by.both w (later w) v (by.time w) (by.task (later w) t.task)) (by.client v t.client)) t.is

  turn : (w now : World) → Turn k w now → R w now
  turn w now t = by_kind w.to_server.frames w.to_client.frames w.under w.coming t
    where
      by_kind : (ups downs : List (List ℕ)) (under : Option Under) (coming : List Command) → TurnOf k w (kind_by ups downs under coming) now → R w now
      by_kind (frame ∷ rest) downs under coming t = server_worked w (with_frame_at_server w frame rest) now t.after (by.up w frame rest) t.is
      by_kind [] (frame ∷ rest) under coming t =
          let v : World = with_frame_at_client w frame rest in
          client_worked w (with_task t.task v) now t.after (by.both w v (with_task t.task v) (by.down w frame rest) (by.task v t.task)) t.is
      by_kind [] [] None [] t = absurd t
      by_kind [] [] None (command ∷ rest) t = start w now command rest t
      by_kind [] [] (Some (transferring task)) coming t = times w now t
      by_kind [] [] (Some (lacking resource)) coming t = times w now t
      by_kind [] [] (Some (calling plain call)) coming t = client_worked w w now t.after (by.none w) t.is
      by_kind [] [] (Some (closing channel ended)) coming t = times w now t

  -- SO EACH RUN LEADS, turn by turn
  pub turns_lead : (n : ℕ) (w now : World) → Turns k n w now → R w now
  turns_lead zero w now same = subst (R w) same (by.none w)
  turns_lead (suc n) w now turns = by.both w turns.0 now (turn w turns.0 turns.1.turn) (turns_lead n turns.0 now turns.2)

-- a list of the world begins that of the later world
abbrev pub Grows : {A : Type 0} → (World → List A) → World → World → Type 0
Grows {A = A} part w now = (more : List A) × (part now ≡ part w ++ more)

pub grows_same : {A : Type 0} (part : World → List A) (a : World) → Grows part a a
grows_same part a = ([], sym (append-nil (part a)))

pub grows_then : {A : Type 0} (part : World → List A) (a b c : World) → Grows part a b → Grows part b c → Grows part a c
grows_then part a b c first next = (first.0 ++ next.0, next.1 ∙ (ap (λ xs. xs ++ next.0) first.1 ∙ append_assoc (part a) first.0 next.0))
