-- Where calls open in good states and no event leads out of these, each run begins in one.
use Rattle.std.proofs.Common.{◌≡◌, ℕ, Bool, true, false, not, ◌||◌, List, [], ◌∷◌, fold, Option, Some, None, option_map, option_and_then, if◌then◌else◌, refl, ap, sym, ◌∙◌, subst}
use Rattle.std.proofs.lemmas.Bool.{true≢false}
use Rattle.std.specs.List.{AllByRecursion}
use Rattle.rpc_ids.specs.declared.method.MethodRef.{MethodRef}
use Rattle.rpc_ids.specs.declared.method.Role.{Role}
use Rattle.rpc_ids.specs.declared.method.Role.TheVariants.{Server}
use Rattle.rpc_ids.specs.declared.status.Status.{Status}
use Rattle.rpc_ids.specs.declared.status.Status.TheVariants.{NotFound, Unavailable}
use Rattle.rpc_packet.specs.declared.owned.Packet.{Packet}
use Rattle.rpc_packet.specs.declared.packet_type.PacketType.{PacketType}
use Rattle.rpc_packet.specs.declared.packet_type.PacketType.TheVariants.{Request, Response, ClientStream, ClientError, ServerError, ServerStream, Completion}
use Rattle.rpc_channel.specs.Rising.{has_id}
use Rattle.rpc_handlers.specs.declared.event.Event.{Event}
use Rattle.rpc_handlers.specs.declared.event.Memo.{Memo}
use Rattle.rpc_handlers.specs.HandlerRule.{HandlerRule}
use Rattle.rpc_journal.specs.declared.setting.Setting.{Setting}
use Rattle.rpc_journal.specs.Calls.{is_replace_of, is_start_of, live_call}
use Rattle.rpc_journal.specs.Effect.{Deed, Effect, Opening}
use Rattle.rpc_journal.specs.Entries.{arrive_row, row_by}
use Rattle.rpc_journal.specs.Kinds.{is_unary, streams_up}
use Rattle.rpc_journal.specs.Queues.{is_completed}
use Rattle.rpc_journal.specs.Rows.{Row, channels_in, method_named}
use Rattle.rpc_journal.specs.ServerTable.{known_row, method_row, unknown_row}
use Rattle.rpc_journal.specs.States.{finished_since, opened_state, opens_call, replacing_state, state_before_run, state_of, state_set}
use Rattle.rpc_journal.proofs.PlaceLemmas.{some_same}

-- each call that an effect opens is so
pub record Opens (Is : Opening → Type 0) (effect : Effect) : Type 0 where
  pub each : (o : Opening) → effect.opens ≡ Some o → Is o

no_opening : (Is : Opening → Type 0) (effect : Effect) → effect.opens ≡ None → Opens Is effect
no_opening Is effect none = record { each = λ o is. absurd (none_some (sym none ∙ is)) }
  where
    none_some : {o : Opening} → None ≡ Some o → ⊥
    none_some same = cc

-- the row of a packet opens a call of the packet's name and of the method that it names
module _ (Is : Opening → Type 0) (p : Packet) where
  if_opens : (b : Bool) (x y : Row) → Opens Is x.does → Opens Is y.does → Opens Is (if b then x else y).does
  if_opens true x y first second = first
  if_opens false x y first second = second

  known_opens : (ptype : PacketType) (m : MethodRef) (ds : List Deed) (l : Option ℕ) → Is (record { name = p.name; method = m; given = None })
      → Opens Is (known_row ptype p m ds l).does
  known_opens Request m ds None is = record { each = λ o same. subst Is (some_same _ o same) is }
  known_opens Request m ds (Some c) is = record { each = λ o same. subst Is (some_same _ o same) is }
  known_opens Response m ds l is = no_opening Is _ refl
  known_opens ClientStream m ds None is = no_opening Is _ refl
  known_opens ClientStream m ds (Some c) is =
      if_opens (not (streams_up m.kind)) _ _ (no_opening Is _ refl) (if_opens (is_completed ds c) _ _ (no_opening Is _ refl) (no_opening Is _ refl))
  known_opens ClientError m ds None is = no_opening Is _ refl
  known_opens ClientError m ds (Some c) is = no_opening Is _ refl
  known_opens ServerError m ds l is = no_opening Is _ refl
  known_opens ServerStream m ds l is = no_opening Is _ refl
  known_opens Completion m ds None is = no_opening Is _ refl
  known_opens Completion m ds (Some c) is = if_opens (is_unary m.kind || is_completed ds c) _ _ (no_opening Is _ refl) (no_opening Is _ refl)

  unknown_opens : (ptype : PacketType) (s : Status) → Opens Is (unknown_row ptype p s).does
  unknown_opens Request s = no_opening Is _ refl
  unknown_opens Response s = no_opening Is _ refl
  unknown_opens ClientStream s = no_opening Is _ refl
  unknown_opens ClientError s = no_opening Is _ refl
  unknown_opens ServerError s = no_opening Is _ refl
  unknown_opens ServerStream s = no_opening Is _ refl
  unknown_opens Completion s = no_opening Is _ refl

  method_opens : (ds : List Deed) (o : Option MethodRef) → ((m : MethodRef) → o ≡ Some m → Is (record { name = p.name; method = m; given = None }))
      → Opens Is (method_row p ds o).does
  method_opens ds None is = unknown_opens p.ptype NotFound
  method_opens ds (Some m) is = known_opens p.ptype m ds (live_call ds p.name) (is m refl)

  pub row_opens : (set : Setting) (ds : List Deed) → set.role ≡ Server
      → ((m : MethodRef) → method_named set p.name ≡ Some m → Is (record { name = p.name; method = m; given = None })) → Opens Is (arrive_row set ds p).does
  unfolding arrive_row
  row_opens set ds role is =
      subst (λ (r : Role). Opens Is (row_by r set ds p).does) (sym role)
      (if_opens (has_id (channels_in set ds) p.name.channel) _ _ (method_opens ds (method_named set p.name) is) (unknown_opens p.ptype Unavailable))

module _ (rule : HandlerRule) (set : Setting) (good : Memo → Bool)
    (stays : (state : Memo) (event : Event) → good state ≡ true → good (rule.next state event) ≡ true) where
  -- a deed opens calls in good states alone, and replaces no handler
  pub record IsGoodDeed (d : Deed) : Type 0 where
    pub opens : Opens (λ o. good (opened_state rule set o) ≡ true) d.does
    pub keeps : (c : ℕ) → is_replace_of c d.entry.kind ≡ false

  abbrev pub AreGood : List Deed → Type 0
  AreGood ds = AllByRecursion IsGoodDeed ds

  -- a deed that opens no call
  pub good_still : (d : Deed) → d.does.opens ≡ None → ((c : ℕ) → is_replace_of c d.entry.kind ≡ false) → IsGoodDeed d
  good_still d none keeps = record { opens = no_opening (λ o. good (opened_state rule set o) ≡ true) d.does none; keeps = keeps }

  opened_good : (effect : Effect) (o : Option Opening) (m : Memo) → Opens (λ x. good (opened_state rule set x) ≡ true) effect → effect.opens ≡ o
      → option_map (opened_state rule set) o ≡ Some m → good m ≡ true
  opened_good effect None m opens same is = absurd cc
  opened_good effect (Some x) m opens same is = subst (λ x. good x ≡ true) (some_same _ m is) (opens.each x same)

  set_good : (ds : List Deed) (c : ℕ) (m : Memo) → AreGood ds → state_set rule set ds c ≡ Some m → good m ≡ true
  set_good [] c m all is = absurd cc
  set_good (d ∷ ds) c m all is = at (opens_call ds d c) (rw (all.0.keeps c) at is) (set_good ds c m all.1)
    where
      at : (b : Bool) → (if b then option_map (opened_state rule set) d.does.opens else state_set rule set ds c) ≡ Some m
          → (state_set rule set ds c ≡ Some m → good m ≡ true) → good m ≡ true
      at true is earlier = opened_good d.does d.does.opens m all.0.opens refl is
      at false is earlier = earlier is

  fold_good : (events : List Event) (m : Memo) → good m ≡ true → good (fold rule.next m events) ≡ true
  fold_good [] m is = is
  fold_good (event ∷ events) m is = fold_good events (rule.next m event) (stays m event is)

  moved_good : (events : List Event) (o : Option Memo) (s : Memo) → ((m : Memo) → o ≡ Some m → good m ≡ true) → option_map (λ m. fold rule.next m events) o ≡ Some s → good s ≡ true
  moved_good events None s begins is = absurd cc
  moved_good events (Some m) s begins is = subst (λ x. good x ≡ true) (some_same _ s is) (fold_good events m (begins m refl))

  pub before_run_good : (ds : List Deed) (c : ℕ) (s : Memo) → AreGood ds → state_before_run rule set ds c ≡ Some s → good s ≡ true
  before_run_good [] c s all is = absurd cc
  before_run_good (d ∷ ds) c s all is = at (is_start_of c d.entry.kind) is (before_run_good ds c s all.1)
    where
      at : (b : Bool) → (if b then state_of rule set ds c else state_before_run rule set ds c) ≡ Some s → (state_before_run rule set ds c ≡ Some s → good s ≡ true) → good s ≡ true
      at true is earlier = moved_good (finished_since ds c) (state_set rule set ds c) s (λ m. set_good ds c m all.1) is
      at false is earlier = earlier is
