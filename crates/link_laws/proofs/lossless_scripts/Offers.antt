-- What the server makes of a read.
use Rattle.std.proofs.Common.{◌≡◌, ◌⊎◌, ℕ, ◌<◌, ◌≤◌, ◌||◌, nat_lt, Bool, true, false, if◌then◌else◌, List, length, Option, Some, None, Ok, Err, refl, ap, sym, ◌∙◌, inl, inr, arith}
use Rattle.std.proofs.lemmas.Bool.{ltb-false, ltb-true}
use Rattle.link_io.specs.Resources.{first_of}
use Rattle.link_io.specs.Stored.{shelf_of}
use Rattle.rpc_ids.specs.declared.Status.{Status}
use Rattle.rpc_ids.specs.declared.Status.TheVariants.{NotFound, OutOfRange}
use Rattle.rpc_journal.proofs.PlaceLemmas.{some_same}
use Rattle.transfer_base.specs.declared.limits.TheConstants.{MAX_RESOURCE}
use Rattle.transfer_resume.specs.Opening.{offer_of, offered}
use Rattle.link_laws.specs.world.World.{Setup}

module _ (k : Setup) (resource asked : ℕ) where
  -- the server has the resource, and this offset is in it
  pub record IsServed : Type 0 where
    pub bytes : List ℕ
    pub has : first_of resource k.server_store.full ≡ Some bytes
    pub within : asked ≤ length bytes

  -- it hasn't, and says why
  pub record IsRefused : Type 0 where
    pub status : Status
    pub offers : offer_of (shelf_of k.server_store) resource asked ≡ Err status
    pub never : (bytes : List ℕ) → first_of resource k.server_store.full ≡ Some bytes → asked ≤ length bytes → ⊥

  pub served_or_refused : IsServed ⊎ IsRefused
  served_or_refused = by_store (first_of resource k.server_store.full) refl
    where
      or_right : (a b : Bool) → b ≡ true → (a || b) ≡ true
      or_right true b is = refl
      or_right false b is = is

      by_size : (bytes : List ℕ) → first_of resource k.server_store.full ≡ Some bytes → (b : Bool) → nat_lt (length bytes) asked ≡ b → IsServed ⊎ IsRefused
      by_size bytes has false fits = inl (record { bytes = bytes; has = has; within = omega (arith, ltb-false (length bytes) asked fits) })
      by_size bytes has true past =
          let outside : length bytes < asked = ltb-true (length bytes) asked past in
          inr (record {
            status = OutOfRange;
            offers = ap (λ o. offered o asked) has ∙ ap (λ b. if b then Err OutOfRange else Ok bytes) (or_right (nat_lt MAX_RESOURCE (length bytes)) (nat_lt (length bytes) asked) past);
            never = λ other found within. (let same : bytes ≡ other = some_same bytes other (sym has ∙ found) in let as_long : length bytes ≡ length other = ap length same in omega (arith, outside, within, as_long));
          })

      by_store : (o : Option (List ℕ)) → first_of resource k.server_store.full ≡ o → IsServed ⊎ IsRefused
      by_store None none = inr (record { status = NotFound; offers = ap (λ o. offered o asked) none; never = λ bytes has within. (let never : None ≡ Some bytes = sym none ∙ has in cc never) })
      by_store (Some bytes) has = by_size bytes has (nat_lt (length bytes) asked) refl
