-- A packet comes to a client at rest, and it does its work.
use Rattle.std.proofs.Common.{◌≡◌, ◌⊎◌, ℕ, ◌<◌, Bool, true, false, ◌&&◌, not, List, [], ◌∷◌, ◌++◌, length, Option, Some, None, Ok, IfSome, if◌then◌else◌, refl, ap, sym, ◌∙◌, subst, inl, inr, arith, append_assoc, append-nil}
use Rattle.std.specs.Prelude.{option_and_then}
use Rattle.rpc_ids.specs.declared.method.MethodRef.{MethodRef}
use Rattle.rpc_ids.specs.declared.method.Role.TheVariants.{Client}
use Rattle.rpc_ids.specs.Status.{status_of}
use Rattle.rpc_packet.specs.declared.owned.Packet.{Packet}
use Rattle.rpc_packet.specs.declared.packet_type.PacketType.{PacketType}
use Rattle.rpc_packet.specs.declared.packet_type.PacketType.TheVariants as ptype
use Rattle.rpc_channel.specs.Rising.{has_id}
use Rattle.rpc_handlers.specs.declared.event.Event.{Event}
use Rattle.rpc_journal.specs.declared.entry.Entry.{Entry}
use Rattle.rpc_journal.specs.declared.entry.EntryKind.TheVariants.{Arrive}
use Rattle.rpc_journal.specs.declared.item.Item.{Item}
use Rattle.rpc_journal.specs.declared.setting.Setting.{Setting}
use Rattle.rpc_journal.specs.Calls.{call_count, calls, live_call}
use Rattle.rpc_journal.specs.ClientTable.{call_row, client_row, live_row, no_call_row}
use Rattle.rpc_journal.specs.Effect.{Deed, Opening}
use Rattle.rpc_journal.specs.Entries.{arrive_row, row_by}
use Rattle.rpc_journal.specs.History.{adding, entry_by, history}
use Rattle.rpc_journal.specs.Items.{arrivals, input_ended}
use Rattle.rpc_journal.specs.Kinds.{is_okay, streams_down}
use Rattle.rpc_journal.specs.Refusals.{is_full}
use Rattle.rpc_journal.specs.Rows.{Row, channels_in, method_named}
use Rattle.rpc_journal.specs.States.{finished_since}
use Rattle.rpc_journal.proofs.Push.{history-push}
use Rattle.rpc_schedule.specs.Schedule.{input_seat}
use Rattle.rpc_schedule.specs.Serving.{Feeds, Serving, TakesPacket, deeds, with_entry}
use Rattle.rpc_schedule.proofs.EntryLemmas.{arrivals-push, length-push}
use Rattle.rpc_schedule.proofs.ServingLemmas.{below_full, input_steps}
use Rattle.link_laws.specs.world.Client.{ClientSettles, ClientTakes, task_after}
use Rattle.link_laws.specs.world.Setup.{client_setting}
use Rattle.link_laws.specs.world.World.{task_under, under_with, Tasked}
use Rattle.link_laws.specs.world.World as world
use Rattle.link_world.specs.server.Resting.{IsResting}
use Rattle.link_world.specs.declared.client.under.Under.{Under}
use Rattle.link_world.specs.client.ClientSide.{ClientWorks}
use Rattle.link_world.specs.client.Underway.{call_seen, call_under, task_seen, under_seen}
use Rattle.link_world.specs.client.Working.{IsKept, Settled, ClientTakesMore}
use Rattle.link_world.proofs.RoomLemmas.{within_adding}
use Rattle.link_world.proofs.client.NumberLemmas.{numbered_entry}

-- No packet opens a call at a client.

either_row : (b : Bool) (x y : Row) → x.does.opens ≡ None → y.does.opens ≡ None → (if b then x else y).does.opens ≡ None
either_row true x y left right = left
either_row false x y left right = right

live_opens : (t : PacketType) (p : Packet) (m : MethodRef) (c : ℕ) → (live_row t p m c).does.opens ≡ None
live_opens ptype.ServerStream p m c = either_row (streams_down m.kind) _ _ refl refl
live_opens ptype.Response p m c = either_row (is_okay (status_of p.status) && not (streams_down m.kind)) _ _ refl refl
live_opens ptype.ServerError p m c = refl
live_opens ptype.Request p m c = refl
live_opens ptype.ClientStream p m c = refl
live_opens ptype.ClientError p m c = refl
live_opens ptype.Completion p m c = refl

none_opens : (t : PacketType) (p : Packet) → (no_call_row t p).does.opens ≡ None
none_opens ptype.ServerStream p = refl
none_opens ptype.Response p = refl
none_opens ptype.ServerError p = refl
none_opens ptype.Request p = refl
none_opens ptype.ClientStream p = refl
none_opens ptype.ClientError p = refl
none_opens ptype.Completion p = refl

call_opens : (p : Packet) (m : Option MethodRef) (c : Option ℕ) → (call_row p m c).does.opens ≡ None
call_opens p (Some m) (Some c) = live_opens p.ptype p m c
call_opens p (Some m) None = none_opens p.ptype p
call_opens p None c = none_opens p.ptype p

row_opens : (set : Setting) (ds : List Deed) (p : Packet) → (client_row set ds p).does.opens ≡ None
row_opens set ds p =
    either_row (has_id (channels_in set ds) p.name.channel) _ _ (call_opens p (method_named set p.name) (live_call ds p.name)) refl

arrive_opens : (set : Setting) (ds : List Deed) (p : Packet) → set.role ≡ Client → (arrive_row set ds p).does.opens ≡ None
unfolding arrive_row
arrive_opens set ds p role = ap (λ r. (row_by r set ds p).does.opens) role ∙ row_opens set ds p

-- a packet arrived, and all that is kept is as it was
arrived_kept : (old : Serving) (items : List Item) (events : List (ℕ × Event)) (p : Packet) → is_full old.table.entries ≡ false → IsKept old items events
    → IsKept (with_entry old input_seat (Arrive p)) items events
arrived_kept old items events p room kept =
    let set = old.table.setting in
    let h = old.table.entries in
    let e = entry_by input_seat (Arrive p) in
    let steps = input_steps old (Arrive p) kept.orderly (λ k. refl) (λ k. refl) refl (λ takes. below_full h room) in
    let opens = arrive_opens set (history set h) p (ap (λ s. s.role) kept.setting) in
    record {
      orderly = steps.orderly;
      room = within_adding h input_seat (Arrive p) kept.room room;
      setting = kept.setting;
      items = kept.items ∙ sym steps.same_items;
      events = λ c. ap (λ ds. finished_since ds c) (history-push set h e) ∙ (rw opens refl ∙ kept.events c);
      numbered = numbered_entry set h e refl (rw opens tt) kept.numbered;
    }

arrived_calls : (old : Serving) (p : Packet) → old.table.setting ≡ client_setting → calls (deeds (with_entry old input_seat (Arrive p))) ≡ calls (deeds old)
arrived_calls old p setting =
    let set = old.table.setting in
    let h = old.table.entries in
    ap calls (history-push set h (entry_by input_seat (Arrive p)))
    ∙ rw (arrive_opens set (history set h) p (ap (λ s. s.role) setting)) (append-nil (calls (history set h)))

-- What is under way then.

task_then : (set : Setting) (now : ℕ) (before ran : List Entry) (under : Option world.Under)
    → task_under (under_with (task_after set now before ran (task_under under)) under) ≡ task_after set now before ran (task_under under)
task_then set now before ran None = refl
task_then set now before ran (Some (world.transferring t)) = refl
task_then set now before ran (Some (world.lacking resource)) = refl
task_then set now before ran (Some (world.calling plain call)) = refl
task_then set now before ran (Some (world.closing channel ended)) = refl

pub works_task : (now : ℕ) (before : List Entry) (old : Option Under) (after : List Entry) (new : Option Under) → (w : ClientWorks now before old after new) → task_seen new ≡ w.next
works_task now before old after new w =
    ap task_under w.under ∙ (ap (λ t. task_under (under_with t (under_seen old))) w.settles.task_is
    ∙ (task_then client_setting now before w.settles.ran (under_seen old) ∙ sym w.settles.task_is))

after_same : (set : Setting) (now : ℕ) (before ran : List Entry) (under : Option world.Under)
    → option_and_then call_under (under_with (task_after set now before ran (task_under under)) under) ≡ option_and_then call_under under
after_same set now before ran None = refl
after_same set now before ran (Some (world.transferring t)) = refl
after_same set now before ran (Some (world.lacking resource)) = refl
after_same set now before ran (Some (world.calling plain call)) = refl
after_same set now before ran (Some (world.closing channel ended)) = refl

-- it is about the same call
pub works_call : (now : ℕ) (before : List Entry) (old : Option Under) (after : List Entry) (new : Option Under) → ClientWorks now before old after new → call_seen new ≡ call_seen old
works_call now before old after new w =
    ap (option_and_then call_under) w.under ∙ (ap (λ t. option_and_then call_under (under_with t (under_seen old))) w.settles.task_is
    ∙ after_same client_setting now before w.settles.ran (under_seen old))

under_twice : (set : Setting) (now : ℕ) (before ran : List Entry) (first : Option Tasked) (under : Option world.Under)
    → task_under (under_with first under) ≡ first
    → under_with (task_after set now before ran first) (under_with first under) ≡ under_with (task_after set now before ran first) under
under_twice set now before ran None under same = refl
under_twice set now before ran (Some t) None same = refl
under_twice set now before ran (Some t) (Some (world.transferring old)) same = refl
under_twice set now before ran (Some t) (Some (world.lacking resource)) same = refl
under_twice set now before ran (Some t) (Some (world.calling plain call)) same = refl
under_twice set now before ran (Some t) (Some (world.closing channel ended)) same = refl

-- One packet more.

client_takes_then : (set : Setting) (now : ℕ) (packets : List Packet) (p : Packet) (a : List Entry) (t : Option Tasked) (b : List Entry) (u : Option Tasked)
    (c : List Entry) (v : Option Tasked) → ClientTakes set now packets a t b u → ClientSettles set now (adding b input_seat (Arrive p)) u c v
    → ClientTakes set now (packets ++ p ∷ []) a t c v
client_takes_then set now [] p a t b u c v same settles =
    (c, v, subst (λ h. ClientSettles set now (adding h input_seat (Arrive p)) t c v) same.0 (subst (λ x. ClientSettles set now (adding b input_seat (Arrive p)) x c v) same.1 settles), (refl, refl))
client_takes_then set now (first ∷ packets) p a t b u c v takes settles =
    (takes.0, takes.1, takes.2, client_takes_then set now packets p takes.0 takes.1 b u c v takes.3 settles)

seen_twice : (under : Option world.Under) → under_with (task_under under) under ≡ under
seen_twice None = refl
seen_twice (Some (world.transferring t)) = refl
seen_twice (Some (world.lacking resource)) = refl
seen_twice (Some (world.calling plain call)) = refl
seen_twice (Some (world.closing channel ended)) = refl

pub takes_none : (now : ℕ) (s : Serving) (under : Option Under) → ClientTakesMore now s under s under
takes_none now s under = record {
  packets = [];
  next = task_seen under;
  takes = (refl, refl);
  task = refl;
  becomes = sym (seen_twice (under_seen under));
  arrived = sym (append-nil (arrivals s.table.entries));
  calls = refl;
}

takes_packet : (now : ℕ) (first : Serving) (u0 : Option Under) (old : Serving) (u1 : Option Under) (new : Serving) (u2 : Option Under) (p : Packet)
    → old.table.setting ≡ client_setting → ClientTakesMore now first u0 old u1 → Settled now (with_entry old input_seat (Arrive p)) u1 new u2 → ClientTakesMore now first u0 new u2
takes_packet now first u0 old u1 new u2 p setting takes settled =
    let h = adding old.table.entries input_seat (Arrive p) in
    let w = settled.works in
    let is : w.next ≡ task_after client_setting now h w.settles.ran takes.next = w.settles.task_is ∙ ap (task_after client_setting now h w.settles.ran) takes.task in
    record {
      packets = takes.packets ++ p ∷ [];
      next = w.next;
      takes = client_takes_then client_setting now takes.packets p first.table.entries (task_seen u0) old.table.entries takes.next new.table.entries w.next takes.takes
          (subst (λ t. ClientSettles client_setting now h t new.table.entries w.next) takes.task w.settles);
      task = works_task now h u1 new.table.entries u2 w;
      becomes = w.under ∙ (ap (λ t. under_with t (under_seen u1)) is ∙ (ap (under_with (task_after client_setting now h w.settles.ran takes.next)) takes.becomes
          ∙ (under_twice client_setting now h w.settles.ran takes.next (under_seen u0) (ap task_under (sym takes.becomes) ∙ takes.task)
          ∙ ap (λ t. under_with t (under_seen u0)) (sym is))));
      arrived = settled.stays.arrived ∙ (arrivals-push old.table.entries (entry_by input_seat (Arrive p))
          ∙ (ap (λ ps. ps ++ p ∷ []) takes.arrived ∙ append_assoc (arrivals first.table.entries) takes.packets (p ∷ [])));
      calls = settled.calls ∙ (arrived_calls old p setting ∙ takes.calls);
    }

-- What was fed, by whether an entry came.

longer_not : (old mid : Serving) → length old.table.entries < length mid.table.entries → mid ≡ old → ⊥
longer_not old mid longer same = omega (arith, longer, ap (λ s. length s.table.entries) same)

module _ (old mid : Serving) (n : ℕ) (feeds : Feeds old (Ok n) mid) where
  pub fed_packet : length old.table.entries < length mid.table.entries → TakesPacket old mid
  fed_packet longer = at feeds.1
    where
      at : (mid ≡ old) ⊎ TakesPacket old mid → TakesPacket old mid
      at (inl same) = absurd (longer_not old mid longer same)
      at (inr takes) = takes

  pub fed_same : (length old.table.entries < length mid.table.entries → ⊥) → mid ≡ old
  fed_same none = at feeds.1
    where
      at : (mid ≡ old) ⊎ TakesPacket old mid → mid ≡ old
      at (inl same) = same
      at (inr takes) = absurd (none (subst (λ s. length old.table.entries < length s.table.entries) (sym takes.adds) (omega (arith, length-push old.table.entries (entry_by input_seat (Arrive takes.packet))))))

-- what is kept behind a packet
pub fed_kept : (old mid : Serving) (items : List Item) (events : List (ℕ × Event)) → TakesPacket old mid → IsKept old items events → IsKept mid items events
fed_kept old mid items events takes kept =
    subst (λ s. IsKept s items events) (sym takes.adds) (arrived_kept old items events takes.packet takes.room kept)

pub fed_calls : (old mid : Serving) → TakesPacket old mid → old.table.setting ≡ client_setting → calls (deeds mid) ≡ calls (deeds old)
fed_calls old mid takes setting = ap (λ s. calls (deeds s)) takes.adds ∙ arrived_calls old takes.packet setting

pub fed_takes : (now : ℕ) (first : Serving) (u0 : Option Under) (old : Serving) (u1 : Option Under) (mid new : Serving) (u2 : Option Under)
    → old.table.setting ≡ client_setting → ClientTakesMore now first u0 old u1 → TakesPacket old mid → Settled now mid u1 new u2 → ClientTakesMore now first u0 new u2
fed_takes now first u0 old u1 mid new u2 setting takes packet settled =
    takes_packet now first u0 old u1 new u2 packet.packet setting takes (subst (λ s. Settled now s u1 new u2) packet.adds settled)

-- the input goes on
arrive_unended : (set : Setting) (h : List Entry) (p : Packet) → input_ended (history set h) ≡ false → input_ended (history set (adding h input_seat (Arrive p))) ≡ false
arrive_unended set h p unended = ap input_ended (history-push set h (entry_by input_seat (Arrive p))) ∙ unended

pub fed_rests : (now : ℕ) (old mid new : Serving) (u1 u2 : Option Under) (items : List Item) (events : List (ℕ × Event)) → IsResting old → TakesPacket old mid
    → Settled now mid u1 new u2 → IsKept new items events → IsResting new
fed_rests now old mid new u1 u2 items events rest packet settled kept = record {
  orderly = kept.orderly;
  accepts = settled.stays.refused ∙ (ap (λ s. s.refused) packet.adds ∙ rest.accepts);
  idle = settled.idle;
  unended = settled.stays.input ∙ (ap (λ s. input_ended (deeds s)) packet.adds ∙ arrive_unended old.table.setting old.table.entries packet.packet rest.unended);
  over = settled.over;
  room = kept.room;
}

-- the call under way is there still
pub there_still : (now : ℕ) (before after : List Entry) (u1 u2 : Option Under) (old new : Serving) → ClientWorks now before u1 after u2 → calls (deeds new) ≡ calls (deeds old)
    → IfSome (call_seen u1) (λ c. c < call_count (deeds old)) → IfSome (call_seen u2) (λ c. c < call_count (deeds new))
there_still now before after u1 u2 old new w same there =
    subst (λ call. IfSome call (λ c. c < call_count (deeds new))) (sym (works_call now before u1 after u2 w))
    (subst (λ (os : List Opening). IfSome (call_seen u1) (λ c. c < length os)) (sym same) there)
