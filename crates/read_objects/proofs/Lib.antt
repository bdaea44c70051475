pub mod ReceivedRooms
