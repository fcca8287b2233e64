-- A load never fills the journal.
use Rattle.std.proofs.Common.{◌≡◌, ℕ, ◌+◌, ◌*◌, ◌≤◌, List, ◌++◌, length, refl, sym, ap, ◌∙◌, subst, arith}
use Rattle.std.proofs.lemmas.Bool.{leb-true}
use Rattle.std.proofs.lemmas.List.Sums.{sum_by-append}
use mathlib.Core.List.{IsPrefix}
use Rattle.rpc_ids.specs.declared.method.Role.TheVariants.{Server}
use Rattle.rpc_packet.specs.declared.owned.Packet.{Packet}
use Rattle.rpc_frames.proofs.Growing.{packets_begin}
use Rattle.rpc_journal.specs.declared.entry.Entry.{Entry}
use Rattle.rpc_journal.specs.declared.entry.TheConstants.{MAX_ENTRIES}
use Rattle.rpc_journal.specs.declared.setting.Setting.{Setting}
use Rattle.rpc_schedule.specs.OneThread.{IsFullBeginning}
use Rattle.demo_services.specs.DemoRule.{demo_rule}
use Rattle.load_stream.specs.Load.{load_packets, load_stream}
use Rattle.load_stream.proofs.LoadLaws.{load_heard}
use Rattle.history_laws.specs.sizes.Size.{arrival_entries, history_entries}
use Rattle.history_laws.proofs.sizes.HistoryLemmas.{full_entries}
use Rattle.pw_run.specs.declared.command.TheConstants.{MAX_LOAD}
use Rattle.rpc_schedule.specs.ends.EndState.{heard}
use Rattle.pw_run.proofs.DemoSizes.{demo_most, demo_within}
use Rattle.pw_run.proofs.GoodCalls.{is_demo, load_begins}
use Rattle.pw_run.proofs.LoadSizes.{load_entries}

beginning_brings : (front whole : List Packet) → IsPrefix front whole → history_entries demo_most front ≤ history_entries demo_most whole
beginning_brings front whole begins =
    omega (arith, ap (history_entries demo_most) (sym begins.1) ∙ sum_by-append (arrival_entries demo_most) front begins.0)

-- what a server hears of a load, up to any place, brings fewer than a full journal's entries
heard_begins : (calls seed : ℕ) (bytes rest : List ℕ) → calls ≤ MAX_LOAD → load_stream calls seed ≡ bytes ++ rest
    → IsPrefix (heard Server bytes) (load_packets calls seed)
heard_begins calls seed bytes rest few stream =
    subst (IsPrefix (heard Server bytes)) (ap (heard Server) (sym stream) ∙ load_heard calls seed (omega (arith, few))) (packets_begin Server bytes rest)

heard_entries : (calls seed : ℕ) (bytes rest : List ℕ) → calls ≤ MAX_LOAD → load_stream calls seed ≡ bytes ++ rest
    → history_entries demo_most (heard Server bytes) ≤ 32 * calls + 16
heard_entries calls seed bytes rest few stream =
    omega (
      arith,
      load_entries calls seed,
      beginning_brings (heard Server bytes) (load_packets calls seed) (heard_begins calls seed bytes rest few stream),
    )

pub never_full : (calls seed : ℕ) (set : Setting) (entries : List Entry) (bytes rest : List ℕ) → calls ≤ MAX_LOAD → set.role ≡ Server
    → load_stream calls seed ≡ bytes ++ rest → IsFullBeginning demo_rule set (heard Server bytes) entries → ⊥
never_full calls seed set entries bytes rest few role stream full =
    let most : length entries ≤ history_entries demo_most (heard Server bytes) + 1 = full_entries demo_rule set is_demo demo_most role refl demo_within (heard Server bytes) entries (load_begins set calls seed (heard Server bytes) (heard_begins calls seed bytes rest few stream)) full in
    let least : MAX_ENTRIES ≤ length entries = leb-true MAX_ENTRIES (length entries) full.full in
    omega (arith, most, least, few, heard_entries calls seed bytes rest few stream)
