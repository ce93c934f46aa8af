-- The root key of either kind of device.
use Rattle.std.specs.Prelude.{ℕ, List}
use Rattle.mc_keys.specs.declared.root_kind.RootKind.{RootKind}
use Rattle.mc_keys.specs.declared.root_kind.RootKind.TheVariants.{V10, V11}
use Rattle.mc_keys.specs.Keys.{mc_root_key, mc_root_key_1_1}

-- McRootKey of the key that a device was made with: GenAppKey of LoRaWAN 1.0, AppKey of 1.1
abbrev pub root_of : RootKind → (key : List ℕ) → List ℕ
root_of V10 key = mc_root_key key
root_of V11 key = mc_root_key_1_1 key
