-- The room that `save` wants: that of the largest image.
use Rattle.std.proofs.Common.{ℕ, ◌≤◌, List, Option, Some, arith}
use Rattle.bc_image.specs.ImageSizes.{most_image_bytes}
use Rattle.bc_image.proofs.SizeLemmas.{image-few}
use Rattle.bc_cli.specs.Saves.{HasRoomToSave}

pub save_ample : (left : Option (List ℕ)) (room count : ℕ) → most_image_bytes ≤ room → HasRoomToSave left (Some room) count
save_ample left room count wide = λ bytes t given short h enough l saved. omega (arith, wide, image-few l saved.image)
