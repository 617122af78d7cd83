-- What the rows of items, slices and views say.
use Rattle.proto_object.specs.Below.{PlainWorld, ProtocolJob, DoGetItem, DoSetItem, DoDelItem, DoGetSlice, DoSetSlice, DoDelSlice, DoKeys, DoValues, DoItems, Row, end, elsewhere}
use Rattle.proto_object.specs.ProtoItems.Items.{get_item_say, set_item_say, del_item_say}
use Rattle.proto_object.specs.ProtoItems.Slices.{get_slice_say, set_slice_say, del_slice_say}
use Rattle.proto_object.specs.ProtoItems.Views.{keys_say, values_say, items_say}

unfoldable pub items_job_say : PlainWorld → ProtocolJob → Row
items_job_say w (DoGetItem o k) told = get_item_say w o k told
items_job_say w (DoSetItem o k v) told = set_item_say w o k v told
items_job_say w (DoDelItem o k) told = del_item_say w o k told
items_job_say w (DoGetSlice o i j) told = get_slice_say w o i j told
items_job_say w (DoSetSlice o i j v) told = set_slice_say w o i j v told
items_job_say w (DoDelSlice o i j) told = del_slice_say w o i j told
items_job_say w (DoKeys o) told = keys_say w o told
items_job_say w (DoValues o) told = values_say w o told
items_job_say w (DoItems o) told = items_say w o told
items_job_say w _ told = end w elsewhere told
