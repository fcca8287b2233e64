use Rattle.std.proofs.Common.{inl, inr}
use Rattle.table_use.proofs.calls.boxed_handlers.a_boxed_handler_is_replaced_by_one_of_another_type.OwnLists.{own-1}
use Rattle.table_use.proofs.calls.boxed_handlers.a_boxed_handler_is_replaced_by_one_of_another_type.Goals as goal

-- an object of either type can act
able : (v : own-1.I) (x : (own-1.entry v).0.Denot) → (own-1.entry v).1.can_act x
able (inl i) x = tt
able (inr (inl i)) x = tt
able (inr (inr j)) x = absurd j

pub replaced-requires-clause-second : goal.replaced-requires-clause-second
replaced-requires-clause-second g c = able c.into_dyn_box-in_ok-new-2.result.vtable c.into_dyn_box-in_ok-new-2.result.value
