-- The text of a report by calls is made of what two histories tell alike.
use Rattle.std.proofs.Common.{◌≡◌, List, [], ◌∷◌, ◌++◌, length, map, flat_map, refl, ap, sym, ◌∙◌, subst}
use Rattle.std.specs.List.{enumerate_from, range_with_len}
use Rattle.rpc_journal.specs.Calls.{call_count, calls}
use Rattle.rpc_journal.specs.CallTable.{past}
use Rattle.rpc_journal.specs.Effect.{Deed}
use Rattle.rpc_journal.specs.History.{history}
use Rattle.rpc_journal.specs.Items.{items_sent}
use Rattle.rpc_schedule.specs.OneThread.{IsOneThreadHistory}
use Rattle.run_report.specs.CrewReport.{lines_by_call, numbered_lines}
use Rattle.run_report.specs.ItemsByCall.{items_by_call, items_of_call, replies}
use Rattle.run_report.specs.Lines.{call_line, frames_line, why_line}
use Rattle.run_report.specs.Report.{call_lines, line_of_call}
use Rattle.run_laws.specs.calm.Alike.{AreAlike}
use Rattle.run_laws.specs.calm.Reports.{ReportsAlike}
use Rattle.run_laws.proofs.calm.Same.{settles_alike}

map_alike : {A B : Type 0} (f g : A → B) (xs : List A) → ((x : A) → f x ≡ g x) → map f xs ≡ map g xs
map_alike f g [] same = refl
map_alike f g (x ∷ xs) same = ap (λ y. y ∷ map f xs) (same x) ∙ ap (λ ys. g x ∷ ys) (map_alike f g xs same)

flat_map_alike : {A B : Type 0} (f g : A → List B) (xs : List A) → ((x : A) → f x ≡ g x) → flat_map f xs ≡ flat_map g xs
flat_map_alike f g [] same = refl
flat_map_alike f g (x ∷ xs) same = ap (λ ys. ys ++ flat_map f xs) (same x) ∙ ap (λ ys. g x ++ ys) (flat_map_alike f g xs same)

module _ (one other : List Deed) (alike : AreAlike one other) where
  same_call_lines : call_lines one ≡ call_lines other
  same_call_lines =
      flat_map_alike (line_of_call one) (line_of_call other) (enumerate_from 0 (calls one))
      (λ numbered. ap (call_line numbered.0 numbered.1.name numbered.1.method.kind) (alike.same_ends numbered.0))
      ∙ ap (λ os. flat_map (line_of_call other) (enumerate_from 0 os)) alike.same_calls

  same_item_lines : lines_by_call (call_count one) (items_sent one) ≡ lines_by_call (call_count other) (items_sent other)
  same_item_lines =
      ap (λ items. numbered_lines items ++ flat_map numbered_lines (items_by_call (call_count one) (items_sent one))) alike.same_replies
      ∙ ap (λ lists. numbered_lines (replies (items_sent other)) ++ flat_map numbered_lines lists)
      (map_alike (λ call. items_of_call call (items_sent one)) (λ call. items_of_call call (items_sent other)) (range_with_len 0 (call_count one)) alike.same_items
      ∙ ap (λ os. items_by_call (length os) (items_sent other)) alike.same_calls)

pub reports_alike : ReportsAlike
reports_alike rule table one packets counts why role ruled calm served settled same history_one =
    let alike : AreAlike (past table) (past one) =
    subst (λ set. AreAlike (past table) (history set one.entries)) (sym same)
    (settles_alike rule table.setting packets table.entries one.entries role ruled calm served settled (subst (λ set. IsOneThreadHistory rule set packets one.entries) same history_one)) in
    ap (λ lines. frames_line counts ++ lines ++ lines_by_call (call_count (past table)) (items_sent (past table)) ++ why_line why) (same_call_lines (past table) (past one) alike)
    ∙ ap (λ lines. frames_line counts ++ call_lines (past one) ++ lines ++ why_line why) (same_item_lines (past table) (past one) alike)
