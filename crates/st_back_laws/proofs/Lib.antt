mod WayBackOver
