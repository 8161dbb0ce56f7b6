-- The factory store is sound, and 6,024 bytes long.
use mathlib.Core.Bool.{true}
use mathlib.Core.Option.{some}
use mathlib.Core.Path.{◌≡◌, refl, ◌∙◌}
use lib.ListN.{length}
use Rattle.rules.specs.Basic.{all, among, rising, rising_from}
use Rattle.rules.specs.Expression.{is_state, names_counter, condition_allowed, group_allowed, groups_allowed, group_size, conditions, groups, expression_allowed_with}
use Rattle.rules.specs.Object.{data_allowed, in_session, object_allowed_with, all_allowed_with}
use Rattle.rules.specs.Layout.{size_with, size, objects_allowed_with, objects_allowed, unpack}
use Rattle.rules.specs.Factory.{entry, table, before_operational, made, factory_objects, factory_store}
use Rattle.laws.proofs.Inverse.{unpack_pack}
use Rattle.laws.proofs.Places.{pack_length}
use Rattle.laws.proofs.Facts.{all_allowed_facts}

pub factory_allowed : objects_allowed factory_objects ≡ true
unfolding all among rising rising_from is_state names_counter condition_allowed group_allowed groups_allowed group_size conditions groups expression_allowed_with data_allowed in_session object_allowed_with all_allowed_with size_with objects_allowed_with entry table before_operational made factory_objects
factory_allowed = refl

pub factory_sound : unpack factory_store ≡ some factory_objects
unfolding factory_store
factory_sound = unpack_pack factory_objects factory_allowed

pub factory_length : length factory_store ≡ 6024
unfolding factory_store
factory_length =
    let total : size factory_objects ≡ 6024 = unfold size_with entry table made factory_objects in refl in
    pack_length factory_objects (all_allowed_facts factory_objects factory_allowed).each ∙ total
