-- The first states, by the ids of the methods' names.
use Rattle.std.proofs.Common.{◌≡◌, ℕ, [], ◌∷◌, Some, codes, refl, sym, ap, ◌∙◌}
use Rattle.rpc_ids.specs.declared.method.Kind.TheVariants.{ServerStream, ClientStream, Bidi}
use Rattle.rpc_handlers.specs.declared.event.Memo.{Memo}
use Rattle.rpc_ids.specs.declared.method.MethodRef.{MethodRef}
use Rattle.rpc_ids.specs.Names.{name_id}
use Rattle.demo_services.specs.DemoCall.{memo_of, numbers}
use Rattle.demo_services.specs.DemoRule.{first, first_by, transfer_side}
use Rattle.demo_services.specs.Methods.{demo_method}
use Rattle.demo_services.specs.Transfer.{demo_seed, first_book, on_side, transfer_memo}
use Rattle.link_io.specs.declared.Shelf.{Shelf}
use Rattle.transfer_resume.specs.declared.side.Side.{Side}
use Rattle.transfer_resume.specs.declared.side.Side.TheVariants.{Read}
use Rattle.transfer_resume.specs.Book.{Book, new_book}
use Rattle.transfer_resume.proofs.PlainLaws.{reads_back}

pub first_count : (seed : Memo) → first seed (demo_method (codes "Count") ServerStream) ≡ numbers (1 ∷ [])
unfolding name_id
first_count seed = refl

pub first_sum : (seed : Memo) → first seed (demo_method (codes "Sum") ClientStream) ≡ numbers (2 ∷ 0 ∷ [])
unfolding name_id
first_sum seed = refl

pub first_chat : (seed : Memo) → first seed (demo_method (codes "Chat") Bidi) ≡ numbers (3 ∷ [])
unfolding name_id
first_chat seed = refl

-- a new call of the transfer service, over what the seed tells of
pub first_transfer : (side : Side) (shelf : Shelf) (window chunk : ℕ) → first_book side (demo_seed shelf window chunk) ≡ new_book side shelf window chunk
first_transfer side shelf window chunk = ap (on_side side) (reads_back (new_book Read shelf window chunk))

-- the first state of a call that is made for a method of the transfer service
pub made_first : (side : Side) (shelf : Shelf) (window chunk : ℕ) (m : MethodRef) (b : Book) → transfer_side m ≡ Some side → b ≡ new_book side shelf window chunk →
    transfer_memo b ≡ first (demo_seed shelf window chunk) m
made_first side shelf window chunk m b is same =
    ap transfer_memo (same ∙ sym (first_transfer side shelf window chunk))
    ∙ ap (λ s. memo_of (first_by (demo_seed shelf window chunk) m s)) (sym is)
