-- What the arrival of a packet, and the end of the input, add to the account.
use Rattle.std.proofs.Common.{◌≡◌, ℕ, ◌+◌, ◌≤◌, Bool, true, false, not, ◌||◌, List, [], length, Option, Some, None, option_to_list, if◌then◌else◌, sym, subst, arith, length-append}
use Rattle.std.proofs.lemmas.Bool.{false≢true}
use Rattle.rpc_ids.specs.declared.method.MethodRef.{MethodRef}
use Rattle.rpc_ids.specs.declared.method.Role.{Role}
use Rattle.rpc_ids.specs.declared.method.Role.TheVariants.{Server}
use Rattle.rpc_ids.specs.declared.status.Status.{Status}
use Rattle.rpc_ids.specs.declared.status.Status.TheVariants.{NotFound, Unavailable}
use Rattle.rpc_packet.specs.declared.owned.Packet.{Packet}
use Rattle.rpc_packet.specs.declared.packet_type.PacketType.{PacketType}
use Rattle.rpc_packet.specs.declared.packet_type.PacketType.TheVariants.{Request, Response, ClientStream, ClientError, ServerError, ServerStream, Completion}
use Rattle.rpc_channel.specs.Rising.{has_id}
use Rattle.rpc_handlers.specs.declared.event.Event.{Event}
use Rattle.rpc_handlers.specs.declared.event.Event.TheVariants.{Ended}
use Rattle.rpc_journal.specs.declared.entry.EntryKind.TheVariants.{Arrive, EndIn}
use Rattle.rpc_journal.specs.declared.setting.Setting.{Setting}
use Rattle.rpc_journal.specs.Calls.{calls, live_call}
use Rattle.rpc_journal.specs.Effect.{Deed, Effect}
use Rattle.rpc_journal.specs.Entries.{arrive_row, each_from, is_live, row_by}
use Rattle.rpc_journal.specs.History.{entry_by, deeds_with}
use Rattle.rpc_journal.specs.Items.{items_sent}
use Rattle.rpc_journal.specs.Kinds.{is_unary, streams_up}
use Rattle.rpc_journal.specs.Queues.{is_completed}
use Rattle.rpc_journal.specs.Rows.{Row, channels_in, method_named, no_effect}
use Rattle.rpc_journal.specs.ServerTable.{known_row, method_row, unknown_row}
use Rattle.rpc_schedule.specs.Schedule.{input_seat}
use Rattle.history_laws.specs.sizes.Size.{arrival_entries, entries_behind}
use Rattle.history_laws.proofs.sizes.Books.{Books, nothing_owed}
use Rattle.history_laws.proofs.sizes.CostLemmas.{closing, closing-append, cost, cost-append, cost-ended, cost-without}
use Rattle.rpc_schedule.proofs.PendingLemmas.{pending_after, pending_step, without}

-- what an effect puts, says and opens comes to no more than n
record Brings (most : Event → ℕ) (n : ℕ) (effect : Effect) : Type 0 where
  within : cost most effect.puts + (length effect.says + closing most (option_to_list effect.opens)) ≤ n

module _ (most : Event → ℕ) where
  if_brings : (n : ℕ) (b : Bool) (x y : Row) → Brings most n x.does → Brings most n y.does → Brings most n (if b then x else y).does
  if_brings n true x y first second = first
  if_brings n false x y first second = second

  known_brings : (ptype : PacketType) (p : Packet) (m : MethodRef) (ds : List Deed) (l : Option ℕ)
      → Brings most (entries_behind most ptype p) (known_row ptype p m ds l).does
  known_brings Request p m ds None = record { within = omega arith }
  known_brings Request p m ds (Some c) = record { within = omega arith }
  known_brings Response p m ds l = record { within = omega arith }
  known_brings ClientStream p m ds None = record { within = omega arith }
  known_brings ClientStream p m ds (Some c) =
      if_brings _ (not (streams_up m.kind)) _ _ (record { within = omega arith })
      (if_brings _ (is_completed ds c) _ _ (record { within = omega arith }) (record { within = omega arith }))
  known_brings ClientError p m ds None = record { within = omega arith }
  known_brings ClientError p m ds (Some c) = record { within = omega arith }
  known_brings ServerError p m ds l = record { within = omega arith }
  known_brings ServerStream p m ds l = record { within = omega arith }
  known_brings Completion p m ds None = record { within = omega arith }
  known_brings Completion p m ds (Some c) =
      if_brings _ (is_unary m.kind || is_completed ds c) _ _ (record { within = omega arith }) (record { within = omega arith })

  unknown_brings : (ptype : PacketType) (p : Packet) (s : Status) → Brings most (entries_behind most ptype p) (unknown_row ptype p s).does
  unknown_brings Request p s = record { within = omega arith }
  unknown_brings Response p s = record { within = omega arith }
  unknown_brings ClientStream p s = record { within = omega arith }
  unknown_brings ClientError p s = record { within = omega arith }
  unknown_brings ServerError p s = record { within = omega arith }
  unknown_brings ServerStream p s = record { within = omega arith }
  unknown_brings Completion p s = record { within = omega arith }

  method_brings : (p : Packet) (ds : List Deed) (o : Option MethodRef) → Brings most (entries_behind most p.ptype p) (method_row p ds o).does
  method_brings p ds None = unknown_brings p.ptype p NotFound
  method_brings p ds (Some m) = known_brings p.ptype p m ds (live_call ds p.name)

  row_brings : (set : Setting) (ds : List Deed) (p : Packet) → set.role ≡ Server → Brings most (entries_behind most p.ptype p) (arrive_row set ds p).does
  unfolding arrive_row
  row_brings set ds p role =
      subst (λ (r : Role). Brings most (entries_behind most p.ptype p) (row_by r set ds p).does) (sym role)
      (if_brings _ (has_id (channels_in set ds) p.name.channel) _ _ (method_brings p ds (method_named set p.name)) (unknown_brings p.ptype p Unavailable))

  -- a packet has arrived
  pub arrived : (set : Setting) (budget : ℕ) (ds : List Deed) (p : Packet) → set.role ≡ Server → Books most (closing most) budget ds
      → Books most (closing most) (budget + arrival_entries most p) (deeds_with set ds (entry_by input_seat (Arrive p)))
  arrived set budget ds p role books =
      let d : Deed = record { entry = entry_by input_seat (Arrive p); does = (arrive_row set ds p).does } in
      let brings = row_brings set ds p role in
      record {
        waiting = pending_after d books.waiting;
        tells = pending_step ds d books.waiting books.tells (λ c starts. absurd (false≢true starts));
        uncancelled = books.uncancelled;
        flushed = omega (arith, books.flushed, length-append (items_sent ds) d.does.says);
        within =
            omega (
              arith,
              books.within,
              brings.within,
              length-append (items_sent ds) d.does.says,
              closing-append most (calls ds) (option_to_list d.does.opens),
              cost-append most (without d.does.drops books.waiting) d.does.puts,
              cost-without most d.does.drops books.waiting,
            );
      }

  -- the input has ended
  pub ended : (set : Setting) (budget : ℕ) (ds : List Deed) → Books most (closing most) budget ds
      → Books most nothing_owed (budget + 1) (deeds_with set ds (entry_by input_seat EndIn))
  ended set budget ds books =
      let puts : List (ℕ × Event) = each_from 0 (is_live ds) (Ended Unavailable) (calls ds) in
      let d : Deed = record { entry = entry_by input_seat EndIn; does = record no_effect { puts = puts } } in
      record {
        waiting = pending_after d books.waiting;
        tells = pending_step ds d books.waiting books.tells (λ c starts. absurd (false≢true starts));
        uncancelled = books.uncancelled;
        flushed = omega (arith, books.flushed, length-append (items_sent ds) []);
        within =
            omega (
              arith,
              books.within,
              length-append (items_sent ds) [],
              cost-ended most 0 (is_live ds) (calls ds),
              cost-append most (without [] books.waiting) puts,
              cost-without most [] books.waiting,
            );
      }
