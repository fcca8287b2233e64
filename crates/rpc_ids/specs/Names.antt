-- The ids of services and methods.
use Rattle.std.specs.Prelude.{◌≡◌, ℕ, ◌+◌, ◌*◌, ◌%◌, ◌^◌, List, [], ◌∷◌, length, codes, refl}

-- the sum of b_k * 65599^k over the bytes of a list, the first of which has the number k
abbrev pub sum_of_powers : ℕ → List ℕ → ℕ
sum_of_powers k [] = 0
sum_of_powers k (b ∷ rest) = b * 65599 ^ k + sum_of_powers (k + 1) rest

-- the id of a name with bytes b_1 to b_n: (n + sum of b_k * 65599^k) mod 2^32
unfoldable pub name_id : List ℕ → ℕ
name_id name = (length name + sum_of_powers 1 name) % 2 ^ 32

-- three ids that pw_rpc gives
echo_id : name_id (codes "Echo") ≡ 2336689897
unfolding name_id
echo_id = refl

demo_id : name_id (codes "demo.Demo") ≡ 1895062779
unfolding name_id
demo_id = refl

empty_id : name_id [] ≡ 0
unfolding name_id
empty_id = refl
