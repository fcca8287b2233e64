-- Each turn of a run keeps what stands of the world, and tells only lines that hold.
use Rattle.std.proofs.Common.{◌≡◌, ℕ, zero, suc, ◌+◌, ◌<◌, Bool, true, false, List, [], ◌∷◌, ◌++◌, length, Option, Some, None, if◌then◌else◌, option_map, inl, inr, refl, sym, ap, ◌∙◌, subst, arith, append_assoc}
use Rattle.std.proofs.lemmas.List.{append-nil}
use Rattle.std.specs.Prelude.{All, Contains, slice_index_or}
use Rattle.std.proofs.lemmas.Grind.{flat_map-append}
use Rattle.std.proofs.lemmas.List.Elements.{recursion_from_All}
use mathlib.Core.List.{IsPrefix}
use Rattle.link_script.specs.declared.command.Command.{Command}
use Rattle.link_script.specs.declared.report.ReportLine.{ReportLine}
use Rattle.link_script.specs.declared.report.ReportLine.TheVariants as line
use Rattle.link_script.specs.lossy.Link.{released}
use Rattle.rpc_ids.specs.declared.status.Status.{Status}
use Rattle.rpc_ids.specs.declared.status.Status.TheVariants.{Okay}
use Rattle.rpc_packet.specs.declared.owned.Packet.{Packet}
use Rattle.rpc_journal.specs.declared.entry.Entry.{Entry}
use Rattle.rpc_journal.specs.declared.setting.Setting.{Setting}
use Rattle.rpc_journal.specs.Calls.{end_of}
use Rattle.rpc_journal.specs.History.{history}
use Rattle.rpc_journal.specs.Items.{arrivals, items_flushed, packet_of, packets_of}
use Rattle.rpc_journal.specs.Lawful.{IsLegal}
use Rattle.rpc_journal.proofs.ItemLemmas.{flushed_begin}
use Rattle.rpc_schedule.specs.Schedule.{NoneWaits}
use Rattle.rpc_journal.specs.declared.item.Item.{Item}
use Rattle.rpc_journal.proofs.PlaceLemmas.{some_same}
use Rattle.transfer_words.specs.Saying.{Saying}
use Rattle.history_laws.specs.messages.Messages.{IsIn}
use Rattle.history_laws.proofs.messages.Members.{in_all, in_front}
use Rattle.transfer_laws.specs.words.Tasks.{Poll}
use Rattle.link_laws.specs.world.Lines.{command_ended, finished, is_still, line_of, plain_line, with_line}
use Rattle.link_laws.specs.world.Sound.{IsSound}
use Rattle.link_laws.specs.world.World.{Plain, Setup, Tasked, Under, World, calling, chat, client_deeds, closing, lacking, count, echo, packets_flushed, server_deeds, sum, transferring}
use Rattle.link_laws.specs.okay_means_bytes.Okay.{IsCommitted, IsDemo, LineHolds, LinesHoldFrom}
use Rattle.link_laws.proofs.okay_means_bytes.Items.{ClientInv, NotTransfer}
use Rattle.link_laws.proofs.okay_means_bytes.Lines.{task_told}
use Rattle.link_laws.proofs.okay_means_bytes.ServerSide.{Serves}
use Rattle.link_laws.proofs.okay_means_bytes.Speaks.{Speaks, Speech, said_t}

-- what is among a list is in it
in_at : {A : Type 0} (xs : List A) (i : ℕ) (x : A) → i < length xs → slice_index_or xs i x ≡ x → IsIn x xs
in_at [] i x within is = absurd (omega arith)
in_at (y ∷ ys) zero x within is = inl (sym is)
in_at (y ∷ ys) (suc i) x within is = inr (in_at ys i x (omega arith) is)

pub contained : {A : Type 0} (xs ys : List A) → All (Contains ys) xs → (x : A) → IsIn x xs → IsIn x ys
contained xs ys all x is = let c = in_all (Contains ys) xs x (recursion_from_All (Contains ys) xs all) is in in_at ys c.0 x c.1 c.2

-- both ways of a world that is sound
pub came_up : (k : Setup) (w : World) → IsSound k w → (p : Packet) → IsIn p (arrivals w.server) → IsIn p (packets_flushed k.client w.client)
came_up k w sound = contained (arrivals w.server) (packets_flushed k.client w.client) sound.server

pub came_down : (k : Setup) (w : World) → IsSound k w → (p : Packet) → IsIn p (arrivals w.client) → IsIn p (packets_flushed k.server w.server)
came_down k w sound = contained (arrivals w.client) (packets_flushed k.server w.server) sound.client

-- what was flushed stays flushed
pub flushed_in : (set : Setting) (h all : List Entry) → IsPrefix h all → (p : Packet) → IsIn p (packets_flushed set h) → IsIn p (packets_flushed set all)
flushed_in set h all begin p is =
    let more = flushed_begin set h begin.0 in
    subst (λ g. IsIn p (packets_flushed set g)) begin.1
    (subst (λ items. IsIn p (packets_of items)) more.1
    (subst (IsIn p) (sym (flat_map-append (λ (item : Item). packet_of item.act) (items_flushed (history set h)) more.0))
    (in_front p (packets_of (items_flushed (history set h))) (packets_of more.0) is)))

pub prefix_then : {A : Type 0} (a b c : List A) → IsPrefix a b → IsPrefix b c → IsPrefix a c
prefix_then a b c first more = (first.0 ++ more.0, sym (append_assoc a first.0 more.0) ∙ (ap (λ x. x ++ more.0) first.1 ∙ more.1))

module _ (k : Setup) (commands : List Command) (demo : IsDemo k) where
  -- WHAT STANDS OF A WORLD. No task speaks:
  pub record Idle (h : List Entry) (n : ℕ) : Type 0 where
    pub session : ℕ
    pub said : List Saying
    pub inv : ClientInv k.client h n session said

  -- a task speaks:
  pub record Busy (h : List Entry) (n lines : ℕ) (t : Tasked) : Type 0 where
    pub speech : Speech
    pub polls : List Poll
    pub speaks : Speaks k commands h n speech t polls
    pub placed : speech.number ≡ lines

  abbrev pub Side : List Entry → ℕ → ℕ → Option Under → Type 0
  Side h n lines None = Idle h n
  Side h n lines (Some (transferring t)) = Busy h n lines t
  Side h n lines (Some (lacking resource)) = Idle h n
  Side h n lines (Some (calling plain c)) = Idle h n × NotTransfer (history k.client h) c
  Side h n lines (Some (closing channel ended)) = Idle h n

  pub idle : (h : List Entry) (n lines : ℕ) (under : Option Under) → Side h n lines under → Idle h n
  idle h n lines None side = side
  idle h n lines (Some (transferring t)) side = record { session = side.speech.session; said = said_t side.speech.session side.speech.begun side.polls; inv = side.speaks.inv }
  idle h n lines (Some (lacking resource)) side = side
  idle h n lines (Some (calling plain c)) side = side.0
  idle h n lines (Some (closing channel ended)) side = side

  pub record Inv (w : World) : Type 0 where
    pub serves : Serves w.server
    pub side : Side w.client w.sessions (length w.lines) w.under
    pub out : NoneWaits (history k.client w.client)
    pub lines : LinesHoldFrom k commands w 0 w.lines

  -- What stood of a line stands later.
  committed_later : (items more : List Item) (session resource offset : ℕ) (bytes : List ℕ) → IsPrefix items more → IsCommitted items session resource offset bytes
      → IsCommitted more session resource offset bytes
  committed_later items more session resource offset bytes begin c =
      record { call = c.call; by_then = c.by_then; begin = prefix_then c.by_then items more c.begin begin; whole = c.whole }

  flushed_prefix : (set : Setting) (h all : List Entry) → IsPrefix h all → IsPrefix (items_flushed (history set h)) (items_flushed (history set all))
  flushed_prefix set h all begin = subst (λ g. IsPrefix (items_flushed (history set h)) (items_flushed (history set g))) begin.1 (flushed_begin set h begin.0)

  holds_later : (w v : World) → IsPrefix w.server v.server → IsPrefix w.client v.client → (number : ℕ) (told : ReportLine) → LineHolds k commands w number told → LineHolds k commands v number told
  holds_later w v server client number (line.Write r o Okay n) h = record {
    asked = h.asked;
    started = h.started;
    bytes = h.bytes;
    had = h.had;
    committed = committed_later (items_flushed (server_deeds k w)) (items_flushed (server_deeds k v)) _ r o _ (flushed_prefix k.server w.server v.server server) h.committed;
    within = h.within;
    size_is = h.size_is;
  }
  holds_later w v server client number (line.Read r o Okay n) h = record {
    asked = h.asked;
    started = h.started;
    bytes = h.bytes;
    had = h.had;
    committed = committed_later (items_flushed (client_deeds k w)) (items_flushed (client_deeds k v)) _ r o _ (flushed_prefix k.client w.client v.client client) h.committed;
    within = h.within;
    size_is = h.size_is;
  }
  holds_later w v server client number _ h = tt

  pub all_later : (w v : World) → IsPrefix w.server v.server → IsPrefix w.client v.client → (number : ℕ) (lines : List ReportLine) → LinesHoldFrom k commands w number lines → LinesHoldFrom k commands v number lines
  all_later w v server client number [] all = tt
  all_later w v server client number (told ∷ lines) all = (holds_later w v server client number told all.0, all_later w v server client (suc number) lines all.1)

  -- one line more
  lines_join : (w : World) (number : ℕ) (lines : List ReportLine) (told : ReportLine) → LinesHoldFrom k commands w number lines → LineHolds k commands w (number + length lines) told
      → LinesHoldFrom k commands w number (lines ++ told ∷ [])
  lines_join w number [] told all holds = (subst (λ m. LineHolds k commands w m told) (omega arith) holds, tt)
  lines_join w number (line ∷ lines) told all holds =
      (all.0, lines_join w (suc number) lines told all.1 (subst (λ m. LineHolds k commands w m told) (omega arith) holds))

  -- THE END OF A TURN
  module _ (v : World) (legal : IsLegal k.rule k.server v.server) (sound : IsSound k v) where
    plain_told : (plain : Plain) (c : ℕ) (o : Option Status) (f : Status → ReportLine) (told : ReportLine) → option_map f o ≡ Some told → ((s : Status) → LineHolds k commands v (length v.lines) (f s)) → LineHolds k commands v (length v.lines) told
    plain_told plain c None f told is each = absurd cc
    plain_told plain c (Some s) f told is each = subst (LineHolds k commands v (length v.lines)) (some_same (f s) told is) (each s)

    under_told : Serves v.server → NoneWaits (history k.client v.client) → (under : Under) → Side v.client v.sessions (length v.lines) (Some under) → (told : ReportLine) → line_of k v under ≡ Some told → LineHolds k commands v (length v.lines) told
    under_told serves out (transferring t) side told is =
        subst (λ m. LineHolds k commands v m told) side.placed
        (task_told k commands demo v legal serves (came_up k v sound) (came_down k v sound) out v.sessions side.speech t side.polls side.speaks told is)
    under_told serves out (lacking resource) side told is = subst (LineHolds k commands v (length v.lines)) (some_same _ told is) tt
    under_told serves out (calling plain c) side told is = plain_told plain c (end_of (client_deeds k v) c) (plain_line k v plain c) told is (each plain)
      where
        each : (p : Plain) (s : Status) → LineHolds k commands v (length v.lines) (plain_line k v p c s)
        each echo s = tt
        each count s = tt
        each sum s = tt
        each chat s = tt
    under_told serves out (closing channel ended) side told is = at (is_still v) is
      where
        at : (b : Bool) → (if b then Some (line.Close channel ended) else None) ≡ Some told → LineHolds k commands v (length v.lines) told
        at true is = subst (LineHolds k commands v (length v.lines)) (some_same _ told is) tt
        at false is = absurd cc

    ended_inv : (under : Option Under) → v.under ≡ under → Inv v → Inv (command_ended k v under)
    ended_inv None e i = i
    ended_inv (Some under) e i = at (line_of k v under) refl
      where
        side : Side v.client v.sessions (length v.lines) (Some under)
        side = subst (Side v.client v.sessions (length v.lines)) e i.side

        at : (o : Option ReportLine) → line_of k v under ≡ o → Inv (with_line v o)
        at None is = i
        at (Some told) is = record {
          serves = i.serves;
          side = idle v.client v.sessions (length v.lines) (Some under) side;
          out = i.out;
          lines =
              all_later v (with_line v (Some told)) ([], append-nil v.server) ([], append-nil v.client) 0 (v.lines ++ told ∷ [])
              (lines_join v 0 v.lines told i.lines (subst (λ m. LineHolds k commands v m told) (omega arith) (under_told i.serves i.out under side told is)));
        }

  pub finish_inv : (v : World) → IsLegal k.rule k.server v.server → IsSound k v → Inv v → Inv (finished k v)
  finish_inv v legal sound i = by_still (is_still v)
    where
      released_world : World
      released_world = record v { to_server = released v.to_server; to_client = released v.to_client }

      by_still : (b : Bool) → Inv (command_ended k (if b then record v { to_server = released v.to_server; to_client = released v.to_client } else v) v.under)
      by_still true =
          ended_inv (record v { to_server = released v.to_server; to_client = released v.to_client }) legal (record { server = sound.server; client = sound.client }) v.under refl
          (record { serves = i.serves; side = i.side; out = i.out; lines = all_later v (record v { to_server = released v.to_server; to_client = released v.to_client }) ([], append-nil v.server) ([], append-nil v.client) 0 v.lines i.lines })
      by_still false = ended_inv v legal sound v.under refl i
