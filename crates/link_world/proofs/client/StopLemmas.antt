-- A frame is fed up to a packet at which the client stops.
use Rattle.std.proofs.Common.{◌≡◌, ◌⊎◌, ℕ, true, List, [], ◌∷◌, ◌++◌, take, drop, Option, None, refl, ap, sym, ◌∙◌, subst, inl, inr, append_assoc}
use Rattle.std.proofs.lemmas.List.{take-append-drop}
use Rattle.rpc_ids.specs.declared.method.Role.TheVariants.{Client}
use Rattle.rpc_packet.specs.declared.owned.Packet.{Packet}
use Rattle.rpc_frames.specs.Heard.{heard_packets}
use Rattle.rpc_journal.specs.declared.answers.StartRefused.TheVariants.{JournalFull}
use Rattle.rpc_journal.specs.declared.entry.Entry.{Entry}
use Rattle.rpc_journal.specs.declared.entry.EntryKind.TheVariants.{Arrive}
use Rattle.rpc_journal.specs.declared.setting.Setting.{Setting}
use Rattle.rpc_journal.specs.History.{adding, entry_by}
use Rattle.rpc_journal.specs.Items.{arrivals}
use Rattle.rpc_journal.specs.Refusals.{is_full}
use Rattle.rpc_schedule.specs.Schedule.{input_seat}
use Rattle.rpc_schedule.specs.Serving.{HasHeard, Serving, TakesPacket, refusing}
use Rattle.rpc_schedule.proofs.EntryLemmas.{arrivals-push}
use Rattle.link_laws.specs.world.Client.{ClientTakes}
use Rattle.link_laws.specs.world.Stops.{ClientStops, ClientTakingStops}
use Rattle.link_laws.specs.world.Setup.{client_setting}
use Rattle.link_laws.specs.world.World.{Tasked}
use Rattle.link_world.proofs.server.HeardLemmas.{heard_further}
use Rattle.link_world.specs.declared.client.under.Under.{Under}
use Rattle.link_world.specs.client.ClientSide.{ClientStopsHearing}
use Rattle.link_world.specs.client.Underway.{task_seen}
use Rattle.link_world.specs.client.Working.{ClientTakesMore}

-- this packet has no room, or the work behind it has none
abbrev StopsAt : Setting → ℕ → Packet → List Entry → Option Tasked → Type 0
StopsAt set now p before task = (is_full before ≡ true) ⊎ ClientStops set now (adding before input_seat (Arrive p)) task

-- the taking of packets stops at one that comes behind those that were taken
taking_stops :
    (set : Setting) (now : ℕ) (packets : List Packet) (p : Packet) (more : List Packet) (a : List Entry) (t : Option Tasked) (b : List Entry) (u : Option Tasked)
    → ClientTakes set now packets a t b u → StopsAt set now p b u → ClientTakingStops set now ((packets ++ p ∷ []) ++ more) a t
taking_stops set now [] p more a t b u same (inl full) = inl (subst (λ h. is_full h ≡ true) same.0 full)
taking_stops set now [] p more a t b u same (inr stops) =
    inr (inl (subst (λ h. ClientStops set now (adding h input_seat (Arrive p)) t) same.0
    (subst (λ x. ClientStops set now (adding b input_seat (Arrive p)) x) same.1 stops)))
taking_stops set now (first ∷ packets) p more a t b u takes stops =
    inr (inr (takes.0, takes.1, takes.2, taking_stops set now packets p more takes.0 takes.1 b u takes.3 stops))

-- So much of a frame was fed behind these bytes, and the packets that were heard with it were taken but for the last.
module _ (now : ℕ) (first : Serving) (u0 : Option Under) (old : Serving) (u1 : Option Under) (fed frame : List ℕ) (count : ℕ)
    (before : HasHeard (heard_packets Client fed) first) (accepts : first.refused ≡ None) (takes : ClientTakesMore now first u0 old u1) where
  heard_upto : (p : Packet) → heard_packets Client (fed ++ take count frame) ≡ arrivals old.table.entries ++ p ∷ []
      → heard_packets Client (fed ++ take count frame) ≡ heard_packets Client fed ++ (takes.packets ++ p ∷ [])
  heard_upto p upto =
      upto ∙ (ap (λ ps. ps ++ p ∷ []) (takes.arrived ∙ ap (λ ps. ps ++ takes.packets) (sym (before.all accepts)))
      ∙ append_assoc (heard_packets Client fed) takes.packets (p ∷ []))

  hearing_stops : (p : Packet) → heard_packets Client (fed ++ take count frame) ≡ arrivals old.table.entries ++ p ∷ []
      → StopsAt client_setting now p old.table.entries (task_seen u1) → ClientStopsHearing now first u0 fed frame
  hearing_stops p upto stops =
      let all = heard_further Client fed (take count frame) (drop count frame) (takes.packets ++ p ∷ []) (heard_upto p upto) in
      record {
        packets = (takes.packets ++ p ∷ []) ++ all.0;
        heard = ap (λ bytes. heard_packets Client (fed ++ bytes)) (sym (take-append-drop count frame)) ∙ all.1;
        holds = taking_stops client_setting now takes.packets p all.0 first.table.entries (task_seen u0) old.table.entries takes.next takes.takes
            (subst (StopsAt client_setting now p old.table.entries) takes.task stops);
      }

  -- it was refused
  pub packet_stops : (mid : Serving) → HasHeard (heard_packets Client (fed ++ take count frame)) mid → is_full old.table.entries ≡ true
      → mid ≡ refusing old JournalFull → ClientStopsHearing now first u0 fed frame
  packet_stops mid heard full refused =
      let last = (subst (HasHeard (heard_packets Client (fed ++ take count frame))) refused heard).but_one refl in
      hearing_stops last.0 last.1 (inl full)

  -- it arrived, and the work behind it stopped
  pub work_stops : (mid : Serving) → HasHeard (heard_packets Client (fed ++ take count frame)) mid → old.refused ≡ None → TakesPacket old mid
      → ClientStops client_setting now mid.table.entries (task_seen u1) → ClientStopsHearing now first u0 fed frame
  work_stops mid heard accepted packet stops =
      let arrived = (subst (HasHeard (heard_packets Client (fed ++ take count frame))) packet.adds heard).all accepted in
      hearing_stops packet.packet (arrived ∙ arrivals-push old.table.entries (entry_by input_seat (Arrive packet.packet)))
      (inr (subst (λ s. ClientStops client_setting now s.table.entries (task_seen u1)) packet.adds stops))
