-- Each contract that OneResult speaks of is that of its function, by computation. Assumes nothing.
use Rattle.one_result.specs.Own.{EveryOwnResult}

pub every_own : EveryOwnResult
every_own = record {
  create = λ κs s n known o r s' n' known' o' e. e;
  set_remove_pseudo_root = λ κs s r s' e. e;
  initialized = λ κs s r s' e. e;
  options = λ κs s r s' e. e;
  path_walk = λ κs s path r s' path' e. e;
  lookup = λ κs s parent name r s' parent' name' e. e;
  readdir = λ κs s node size offset out r s' node' size' offset' out' e. e;
  mount = λ κs s path b r s' path' b' e. e;
  restore_mount = λ κs s k path b r s' k' path' b' e. e;
  umount = λ κs s path r s' path' e. e;
  get_rootfs = λ κs s path r s' path' e. e;
  route = λ κs s x r s' x' e. e;
  remap_attr_id = λ κs s uid gid outward r s' uid' gid' outward' e. e;
  save_to_bytes = λ κs s out r s' out' e. e;
  restore_from_bytes = λ κs s b r s' b' e. e;
  feed = λ κs s carry kept piece out r s' carry' kept' piece' out' e. e;
  finish = λ κs s carry kept out r s' carry' kept' out' e. e;
}
