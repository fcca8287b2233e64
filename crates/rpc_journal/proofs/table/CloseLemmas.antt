-- How a plain table follows its history over the Close of a channel.
use Rattle.std.proofs.Common.{◌≡◌, ℕ, zero, suc, ◌+◌, ◌<◌, ◌≤◌, Bool, true, false, not, ◌&&◌, ◌||◌, ◌==◌, List, [], ◌∷◌, ◌++◌, length, filter, slice_get, cond, count_by, Some, None, if◌then◌else◌, refl, ap, sym, ◌∙◌, subst, arith, length-append}
use Rattle.std.proofs.Math.Bool.{or-false, or_comm}
use Rattle.std.proofs.lemmas.Bool.{eqb-true}
use Rattle.std.proofs.lemmas.Map.Views.{any-filter_same}
use Rattle.std.proofs.lemmas.List.Folds.{list_any-append}
use Rattle.std.proofs.lemmas.List.Sums.{sum_by-cons}
use Rattle.std.specs.List.{list_any}
use Rattle.rpc_channel.specs.Rising.{has_id}
use Rattle.rpc_ids.specs.declared.method.Role.{Role}
use Rattle.rpc_ids.specs.declared.status.Status.TheVariants.{Aborted}
use Rattle.rpc_journal.specs.declared.table.call_state.CallState.{CallState}
use Rattle.rpc_journal.specs.declared.table.call_states.CallStates.{CallStates}
use Rattle.rpc_journal.specs.declared.entry.EntryKind.TheVariants.{Close}
use Rattle.rpc_journal.specs.declared.item.Item.{Item}
use Rattle.rpc_journal.specs.declared.table.notice.Notice.TheVariants.{ChannelClosed}
use Rattle.rpc_journal.specs.declared.setting.Setting.{Setting}
use Rattle.rpc_journal.specs.Calls.{calls}
use Rattle.rpc_journal.specs.table.Closing.{closing_items, live_on}
use Rattle.rpc_journal.specs.Effect.{Opening, Deed}
use Rattle.rpc_journal.specs.Entries.{close_effect, error_type, is_live_on, made_from}
use Rattle.rpc_journal.specs.History.{entry_by, deeds_with}
use Rattle.rpc_journal.specs.Items.{items_sent}
use Rattle.rpc_journal.specs.table.Newest.{newest_of}
use Rattle.rpc_journal.specs.Rows.{channels_in, is_closed, packet_item, status_packet}
use Rattle.rpc_journal.specs.table.Agrees.{IsToldAll, Agrees, AgreesOnCalls, AgreesOn}
use Rattle.rpc_journal.specs.table.Touch.{is_told}
use Rattle.rpc_journal.proofs.EachLemmas.{made_length}
use Rattle.rpc_journal.proofs.table.NoticeLemmas.{step_told, test_is}
use Rattle.rpc_journal.proofs.table.TableLemmas.{opening_is}
use Rattle.rpc_journal.proofs.PlaceLemmas.{some_same}

-- the states tell of these openings, and of which calls end
record Fits (role : Role) (channel n : ℕ) (test : ℕ → Opening → Bool) (os : List Opening) (rs : List CallState) : Type 0 where
  many : length rs ≡ length os
  name : (j : ℕ) (o : Opening) (r : CallState) → slice_get os j ≡ Some o → slice_get rs j ≡ Some r → o.name ≡ r.name
  told : (j : ℕ) (o : Opening) (r : CallState) → slice_get os j ≡ Some o → slice_get rs j ≡ Some r → test (n + j) o ≡ is_told (ChannelClosed channel) r

made_items : (role : Role) (channel n : ℕ) (test : ℕ → Opening → Bool) (os : List Opening) (rs : List CallState) → Fits role channel n test os rs
    → made_from n test (λ c o. packet_item c (status_packet (error_type role) o.name Aborted)) os ≡ closing_items role channel n rs
made_items role channel n test [] [] fits = refl
made_items role channel n test [] (r ∷ rs) fits = absurd (omega (arith, fits.many))
made_items role channel n test (o ∷ os) [] fits = absurd (omega (arith, fits.many))
made_items role channel n test (o ∷ os) (r ∷ rs) fits =
    let rest = made_items role channel (n + 1) test os rs (record {
      many = omega (arith, fits.many);
      name = λ j p q. fits.name (suc j) p q;
      told = λ j p q there its. subst (λ k. test k p ≡ is_told (ChannelClosed channel) q) (omega arith) (fits.told (suc j) p q there its);
    }) in
    let first : test n o ≡ is_told (ChannelClosed channel) r = subst (λ k. test k o ≡ is_told (ChannelClosed channel) r) (omega arith) (fits.told 0 o r refl refl) in
    rw (first, fits.name 0 o r refl refl) (at (is_told (ChannelClosed channel) r) rest)
  where
    at : (b : Bool) → made_from (n + 1) test (λ c x. packet_item c (status_packet (error_type role) x.name Aborted)) os ≡ closing_items role channel (n + 1) rs
        → (if b then packet_item n (status_packet (error_type role) r.name Aborted) ∷ made_from (n + 1) test (λ c x. packet_item c (status_packet (error_type role) x.name Aborted)) os
        else made_from (n + 1) test (λ c x. packet_item c (status_packet (error_type role) x.name Aborted)) os)
        ≡ (if b then packet_item n (status_packet (error_type role) r.name Aborted) ∷ closing_items role channel (n + 1) rs else closing_items role channel (n + 1) rs)
    at true rest = ap (λ items. packet_item n (status_packet (error_type role) r.name Aborted) ∷ items) rest
    at false rest = rest

-- what goes out as a channel is closed
pub close_says : (role : Role) (ds : List Deed) (channel : ℕ) (states : List CallState) → AgreesOnCalls ds states
    → (close_effect role ds channel).says ≡ closing_items role channel 0 states
close_says role ds channel states agrees = made_items role channel 0 (is_live_on ds channel) (calls ds) states (record {
  many = agrees.many;
  name = λ j o r there its. (found j o r there its).0;
  told = λ j o r there its.
      let same = found j o r there its in
      subst (λ k. is_live_on ds channel k o ≡ is_told (ChannelClosed channel) r) (omega arith) (test_is ds (ChannelClosed channel) j o r (agrees.each j r its) same.0 same.1);
})
  where
    found : (j : ℕ) (o : Opening) (r : CallState) → slice_get (calls ds) j ≡ Some o → slice_get states j ≡ Some r → (o.name ≡ r.name) × (o.method ≡ r.method)
    found j o r there its =
        let opening = opening_is ds j r (agrees.each j r its) in
        let same : opening.0 ≡ o = some_same opening.0 o (sym opening.1 ∙ there) in
        subst (λ (x : Opening). (x.name ≡ r.name) × (x.method ≡ r.method)) same (opening.2, opening.3)

pub closing_length : (role : Role) (channel n : ℕ) (states : List CallState) → length (closing_items role channel n states) ≡ live_on channel states
closing_length role channel n [] = refl
closing_length role channel n (r ∷ rs) =
    at (is_told (ChannelClosed channel) r) (closing_length role channel (n + 1) rs) ∙ sym (sum_by-cons (λ x. cond (is_told (ChannelClosed channel) x) 1 0) r rs)
  where
    at : (b : Bool) → length (closing_items role channel (n + 1) rs) ≡ live_on channel rs
        → length (if b then packet_item n (status_packet (error_type role) r.name Aborted) ∷ closing_items role channel (n + 1) rs else closing_items role channel (n + 1) rs) ≡ cond b 1 0 + live_on channel rs
    at true rest = omega (arith, rest)
    at false rest = omega (arith, rest)

pub close_many : (role : Role) (ds : List Deed) (channel : ℕ) (states : List CallState) → AgreesOnCalls ds states
    → length (close_effect role ds channel).says ≡ live_on channel states
close_many role ds channel states agrees = ap length (close_says role ds channel states agrees) ∙ closing_length role channel 0 states

pub close_ends : (role : Role) (ds : List Deed) (channel : ℕ) (states : List CallState) → AgreesOnCalls ds states
    → length (close_effect role ds channel).ends ≡ live_on channel states
close_ends role ds channel states agrees =
    made_length (is_live_on ds channel) (λ k o. (k, Aborted)) (λ c o. packet_item c (status_packet (error_type role) o.name Aborted)) 0 (calls ds)
    ∙ close_many role ds channel states agrees

-- one more channel is closed
pub closed_more : (ds : List Deed) (d : Deed) (channel : ℕ) (closed : List ℕ) → ((x : ℕ) → has_id closed x ≡ is_closed ds x)
    → ((x : ℕ) → is_closed (d ∷ ds) x ≡ ((channel == x) || is_closed ds x)) → (x : ℕ) → has_id (closed ++ channel ∷ []) x ≡ is_closed (d ∷ ds) x
closed_more ds d channel closed before now x =
    list_any-append (λ y. y == x) closed (channel ∷ [])
    ∙ (ap (λ b. has_id closed x || b) (or-false (channel == x)) ∙ (ap (λ b. b || (channel == x)) (before x) ∙ (or_comm (is_closed ds x) (channel == x) ∙ sym (now x))))

-- the table's calls on the channel were told of it, their packets counted, and the channel kept
pub table_closed : (set : Setting) (ds : List Deed) (seat channel : ℕ) (t u : CallStates) → Agrees ds t
    → IsToldAll (length ds) (ChannelClosed channel) t.calls.items u.calls.items → u.newest ≡ t.newest
    → u.closed.items ≡ t.closed.items ++ channel ∷ [] → u.unflushed ≡ t.unflushed + live_on channel t.calls.items → u.input_ended ≡ t.input_ended → u.halted ≡ t.halted
    → Agrees (deeds_with set ds (entry_by seat (Close channel))) u
table_closed set ds seat channel t u agrees told newest closed items input halt =
    let d : Deed = record { entry = entry_by seat (Close channel); does = close_effect set.role ds channel } in
    record {
      calls = step_told set.role ds seat (Close channel) (ChannelClosed channel) t.calls.items u.calls.items
          (record { start = λ k. refl; finish = λ k. refl; cancel = λ k. refl }) agrees.calls told;
      newest = λ name. ap (λ m. newest_of m name) newest ∙ agrees.newest name;
      closed = λ x. ap (λ xs. has_id xs x) closed ∙ closed_more ds d channel t.closed.items agrees.closed (λ y. refl) x;
      items = omega (arith, items, agrees.items, length-append (items_sent ds) (close_effect set.role ds channel).says, close_many set.role ds channel t.calls.items agrees.calls);
      input = input ∙ agrees.input;
      halt = halt ∙ agrees.halt;
    }

and_swap : (a b : Bool) → (a && b) ≡ (b && a)
and_swap true true = refl
and_swap true false = refl
and_swap false true = refl
and_swap false false = refl

-- a channel is in where it is one of those that the history begins with, and wasn't closed
left_in : (test : ℕ → Bool) (ids : List ℕ) (x : ℕ) → has_id (filter test ids) x ≡ (has_id ids x && test x)
left_in test ids x =
    any-filter_same (λ y. y == x) test (test x) (λ y same. ap test (eqb-true y x same)) ids ∙ and_swap (test x) (has_id ids x)

pub in_now : (set : Setting) (ds : List Deed) (ids : List ℕ) (t : CallStates) (x : ℕ) → set.channels ≡ ids → Agrees ds t
    → has_id (channels_in set ds) x ≡ (has_id ids x && not (has_id t.closed.items x))
in_now set ds ids t x is agrees =
    left_in (λ channel. not (is_closed ds channel)) set.channels x
    ∙ (ap (λ xs. has_id xs x && not (is_closed ds x)) is ∙ ap (λ b. has_id ids x && not b) (sym (agrees.closed x)))
